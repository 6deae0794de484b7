pub mod Legal
pub mod NextBatch
pub mod Numbers
pub mod Entering
pub mod Access
pub mod Minimum
pub mod Members
pub mod Slots
pub mod Counting
pub mod Knowing
pub mod Landings
pub mod Landed
mod Looks
mod Joins
mod Offers
mod Choice
mod Early
pub mod Entries
pub mod Evidence
mod Late
pub mod Tame
mod Settled
mod Agreement
mod Copies
mod Filled
pub mod Phases
pub mod Prefixes
pub mod Room
pub mod Sound
pub mod Sessions
pub mod Possible
mod Reach
pub mod Readings
pub mod FuosRead
pub mod Fitting
pub mod Reserve
pub mod Windows
mod Journals
pub mod Growing
pub mod Within
