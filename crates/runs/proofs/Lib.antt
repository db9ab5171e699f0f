mod Acting
mod Agreeing
mod Best
mod Boards
mod Copying
mod Counts
mod Facts
mod Follow
mod Grouping
mod Induct
mod Kindless
pub mod Lawfully
mod Limit
mod Lying
pub mod Reaching
mod Sound
mod Stages
mod Tallies
mod Told
mod Views
