pub mod LeftReads
pub mod RightReads
