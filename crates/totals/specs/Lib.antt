pub mod Total
pub mod Gathered
