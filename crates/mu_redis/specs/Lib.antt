pub mod Alone
pub mod Asking
pub mod Names
pub mod Refusals
pub mod Wordings
