pub mod Chains
pub mod Demand
