mod Elsewhere
mod Entries
mod Fences
mod Grants
mod Kept
pub mod SetOne
mod Within
