pub mod KindBits
pub mod Widths
pub mod Turns
