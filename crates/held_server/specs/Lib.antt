pub mod Held
pub mod Servers
