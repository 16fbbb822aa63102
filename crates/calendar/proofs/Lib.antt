-- What the proofs of calendar share.
pub mod Days
pub mod Table
pub mod Dates
