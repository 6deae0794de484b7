pub mod Beside
pub mod Words
pub mod Padding
pub mod Kinds
pub mod Commands
pub mod Tables
pub mod Texts
pub mod Sessions
