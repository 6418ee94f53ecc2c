pub mod Faults
pub mod Limits
pub mod Plan
pub mod Pools
