pub mod Causes
pub mod Growing
pub mod Keeping
pub mod Telling
