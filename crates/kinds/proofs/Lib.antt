pub mod FirstStrength
pub mod Unbeaten
