pub mod Agreeing
pub mod Completing
mod Deciding
pub mod Faults
pub mod Journals
pub mod LogCommands
pub mod LogsAgreeing
pub mod LongestLogs
pub mod Places
pub mod Spelled
