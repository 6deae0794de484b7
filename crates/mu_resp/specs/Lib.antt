pub mod Answers
pub mod Laws
pub mod Readings
pub mod Requests
