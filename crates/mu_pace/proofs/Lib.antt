pub mod Counting
mod Stretched
pub mod Growing
pub mod Pasts
mod Hosts
pub mod Leading
mod Confirming
pub mod Replaying
mod Keeping
pub mod Rooms
pub mod Positions
pub mod Members
pub mod Placed
pub mod Away
pub mod Countdowns
pub mod Rounds
mod Collecting
pub mod Weights
mod Asking
mod Opening
pub mod Beside
pub mod Closing
pub mod Cycles
