pub mod Limits
pub mod Places
mod Logs
mod Others
mod Packing
mod Fences
mod Fields
mod Entering
mod Tracking
mod Opening
mod PlaceTies
mod Ranges
mod Values
mod Entries
mod Contents
mod MinTies
mod Loading
mod Stamps
mod Puts
mod LookWords
pub mod Fitting
pub mod Law
pub mod Stand
mod Lists
pub mod Forms
mod Examples
mod Founds
pub mod Prepared
pub mod Growing
