pub mod Windows
pub mod Nexts
