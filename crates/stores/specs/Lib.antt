pub mod Stores
pub mod Bids
