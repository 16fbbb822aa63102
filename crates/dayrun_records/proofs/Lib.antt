pub mod Opening
pub mod Made
pub mod Taking
