mod Rows
mod Keeps
mod Words
mod Writing
mod Sighting
pub mod Keying
pub mod Watched
mod Telling
