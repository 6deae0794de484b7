pub mod Cycles
pub mod Naps
pub mod Progress
pub mod Rests
pub mod Signs
pub mod Silences
