pub mod Format
pub mod Lines
pub mod Opening
pub mod Rows
pub mod Totals
