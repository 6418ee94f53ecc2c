pub mod Picks
pub mod Highest
pub mod Turns
