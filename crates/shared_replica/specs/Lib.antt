pub mod Knowing
pub mod Standing
pub mod Orders
