pub mod Accounts
pub mod Held
pub mod Shown
pub mod Straying
