pub mod Standing
pub mod Running
pub mod Appending
pub mod Telling
