pub mod Entries
pub mod Round
