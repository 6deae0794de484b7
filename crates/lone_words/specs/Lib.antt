pub mod Spots
pub mod Memory
pub mod Accesses
pub mod Right
pub mod Coming
