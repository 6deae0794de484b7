pub mod Commits
pub mod FilledLog
pub mod HeldRows
pub mod KnownLog
pub mod Offers
pub mod RowWords
pub mod Telling
