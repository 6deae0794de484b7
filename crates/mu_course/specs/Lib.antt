pub mod Committing
pub mod Courses
pub mod Halts
pub mod Resigning
pub mod SoFar
pub mod Telling
pub mod Walks
