mod Views
pub mod Runs
pub mod InSession
pub mod PartsBack
