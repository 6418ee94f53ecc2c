pub mod Decided
pub mod Drawn
pub mod Examples
pub mod Firsts
pub mod FlatDrawn
pub mod Marks
pub mod Nets
pub mod Climbs
