pub mod Searches
pub mod Bits
pub mod Adding
