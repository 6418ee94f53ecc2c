pub mod Drawing
pub mod Limits
pub mod Props
pub mod Tables
