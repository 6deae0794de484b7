mod Counts
mod Each
mod Elsewhere
pub mod Range
