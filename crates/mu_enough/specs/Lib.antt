pub mod Committed
pub mod Finished
pub mod Lines
pub mod Promises
