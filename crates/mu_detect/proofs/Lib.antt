pub mod Leaders
pub mod Peers
