pub mod Cardinals
pub mod Equality
mod Handing
mod Numbering
mod Scan
mod Tallies
pub mod Topmost
