mod Parting
mod Placing
mod Arranging
mod Filling
mod Trading
mod Ledgers
mod Remaining
mod Sound
mod Naming
mod Steps
mod Standing
mod Crossing
mod Adding
pub mod Session
pub mod Fronts
