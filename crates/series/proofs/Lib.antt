mod Blocks
mod Counting
mod Filing
mod Headers
mod Pushes
mod Raws
mod Rounds
