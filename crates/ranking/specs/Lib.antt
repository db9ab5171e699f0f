pub mod Orders
pub mod Reports
pub mod Standings
