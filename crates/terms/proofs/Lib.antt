pub mod Added
pub mod Held
pub mod Members
pub mod Numbered
pub mod Ranges
pub mod SameSlots
