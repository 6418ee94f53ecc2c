pub mod Calls
pub mod Entries
pub mod Events
pub mod Ranges
pub mod Refusals
pub mod Sets
pub mod Slots
