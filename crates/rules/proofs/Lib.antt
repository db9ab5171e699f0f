pub mod Listing
pub mod Mapping
pub mod Moves
pub mod Positions
pub mod Refused
pub mod Served
pub mod Steady
pub mod Taking
