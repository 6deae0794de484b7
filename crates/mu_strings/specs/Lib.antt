pub mod Laws
pub mod Spellings
