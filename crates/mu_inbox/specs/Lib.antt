pub mod Shapes
pub mod Memory
pub mod Entries
pub mod Standing
pub mod Running
