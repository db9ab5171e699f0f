pub mod Dealing
pub mod Deck
pub mod First
pub mod Packs
pub mod Refusals
pub mod Seats
pub mod Setting
pub mod Units
