pub mod Pace
pub mod Stands
