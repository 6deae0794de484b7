pub mod Entries
mod Keeps
mod Cuts
mod Joins
mod Opening
mod Ports
mod Effects
