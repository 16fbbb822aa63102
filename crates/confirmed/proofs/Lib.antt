pub mod Hours
pub mod Reading
