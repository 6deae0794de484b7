mod Adding
mod Widening
pub mod Fetched
pub mod Filled
pub mod Firsts
mod Inserted
pub mod Lasts
mod Learning
pub mod NextRows
pub mod Placed
pub mod Rows
mod Starts
mod Untouched
mod Whole
