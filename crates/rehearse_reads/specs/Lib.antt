pub mod LineReads
pub mod Rows
