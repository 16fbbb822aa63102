-- What the proofs of eic share.
pub mod Codes
