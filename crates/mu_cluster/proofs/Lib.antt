pub mod Agreeing
mod AllTold
mod Branching
mod Committing
mod Driven
mod Fair
mod FairRuns
pub mod FewCommands
mod Filling
mod Finished
mod Finishing
mod InStep
mod InTurn
mod Living
mod Naming
mod Onward
mod Outliving
mod Outrunning
mod Passes
mod Paused
mod Pausing
mod Ports
mod Raised
mod Rounding
pub mod RowsMade
mod Seats
mod Taken
mod Trusting
mod Turned
mod Turning
mod Unblocking
mod Wording
