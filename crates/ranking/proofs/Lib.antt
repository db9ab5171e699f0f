mod Leading
mod Tables
