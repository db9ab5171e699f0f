mod Counting
mod Listing
mod Parting
mod Permitting
mod Settling
