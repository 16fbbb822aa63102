pub mod Searches
pub mod Pairs
