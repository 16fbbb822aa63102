pub mod Input
pub mod States
