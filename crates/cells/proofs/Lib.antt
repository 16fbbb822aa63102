pub mod Rows
pub mod Turns
pub mod Regions
pub mod Views
pub mod Entries
