pub mod Attested
pub mod Items
pub mod Laws
