pub mod Again
mod Anew
pub mod Applying
mod Astray
pub mod Beginning
mod Bringing
mod Calm
mod Catching
mod CatchingUp
mod Clearing
pub mod Cutting
mod Ending
mod Enduring
pub mod Enough
pub mod Failing
pub mod Fair
pub mod Fetching
pub mod Finding
mod Following
mod Gaining
mod GainingUpTo
mod Joining
mod KnowsMost
pub mod Lagging
pub mod LastRaising
mod LastAsks
mod Lasting
mod Missing
mod Moments
mod Newer
mod Noting
mod Opening
mod Reaching
pub mod Resuming
mod Rising
mod SeenAsks
mod Settled
pub mod Settling
mod Since
pub mod Spreading
mod Stands
mod Started
mod Steady
mod Stopped
pub mod Stopping
mod Ticking
pub mod TurnFences
mod TurnGrants
mod TurnNumbers
pub mod TurnOwners
pub mod Turns
mod Unhindered
mod Waiting
