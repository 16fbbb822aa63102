pub mod Steps
pub mod Promises
pub mod RoundTrip
