mod Applying
mod Ends
pub mod Fresh
mod Handing
pub mod Holds
mod Kept
mod Lasting
pub mod Linear
mod Orders
mod Places
mod Presents
mod Rows
mod Wholes
