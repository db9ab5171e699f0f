pub mod Fairness
pub mod Law
pub mod Progress
pub mod Reach
pub mod Reckoning
pub mod Runs
