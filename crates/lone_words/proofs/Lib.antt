mod Spots
mod Effects
pub mod OneList
mod Reaching
mod Right
pub mod Found
pub mod Coming
