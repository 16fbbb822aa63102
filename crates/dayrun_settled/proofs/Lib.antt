pub mod Front
pub mod Patterns
pub mod Settled
