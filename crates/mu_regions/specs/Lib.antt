pub mod Range
pub mod Stands
