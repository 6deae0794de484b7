pub mod Events
pub mod Lines
pub mod Steps
pub mod Table
