pub mod Answers
pub mod Commands
pub mod Desks
pub mod OneThread
pub mod Promising
pub mod Words
