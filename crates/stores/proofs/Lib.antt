pub mod Stores
pub mod Repeats
pub mod Grants
pub mod Tables
pub mod Firsts
pub mod Raised
pub mod Pairs
