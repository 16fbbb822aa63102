pub mod Capacities
pub mod Promises
pub mod Entries
