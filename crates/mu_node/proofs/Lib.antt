mod Answering
mod Bits
mod Heads
mod Leads
mod Telling
mod Watching
mod Writing
pub mod AskedAgain
pub mod CatchingUp
pub mod Cycled
pub mod Failing
pub mod FewRows
pub mod Following
pub mod Growing
pub mod Leading
pub mod Left
pub mod Midway
pub mod Moving
pub mod Reading
pub mod Turning
mod Where
