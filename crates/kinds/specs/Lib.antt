pub mod GameLaws
pub mod Games
pub mod Meanings
pub mod Orders
pub mod Strengths
pub mod Tricks
