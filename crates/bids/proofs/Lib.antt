pub mod Names
pub mod Verdicts
pub mod Placing
