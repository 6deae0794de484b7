pub mod Agreeing
mod LongLines
mod Putting
pub mod Telling
mod Texts
