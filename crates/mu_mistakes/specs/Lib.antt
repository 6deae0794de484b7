pub mod Expected
pub mod Flaws
pub mod Misreads
pub mod Shown
