pub mod Clients
mod Keeping
