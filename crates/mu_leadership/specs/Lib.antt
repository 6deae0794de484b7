pub mod Bearing
pub mod Leadership
