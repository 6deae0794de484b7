pub mod Operations
pub mod Rests
