pub mod Input
pub mod Running
