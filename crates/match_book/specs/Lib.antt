pub mod Orders
pub mod Places
pub mod Ledgers
pub mod Stands
pub mod Laws
pub mod Filling
