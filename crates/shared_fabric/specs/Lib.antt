pub mod Answering
pub mod Gathering
pub mod Rooms
