pub mod Arrivals
pub mod Line
pub mod Sendings
pub mod Collected
