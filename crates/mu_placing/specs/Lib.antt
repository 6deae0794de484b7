pub mod FilledLogs
pub mod Heads
pub mod LandedPuts
pub mod Looks
pub mod Naming
