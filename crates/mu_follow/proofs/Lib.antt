mod CatchingUp
pub mod Due
pub mod Full
pub mod Growing
pub mod Handing
pub mod Kept
pub mod Putting
pub mod Spelled
mod Stays
pub mod Waiting
