mod Events
mod Others
mod Places
pub mod Waiting
