mod DigitAnswers
mod EventLines
mod EventWords
mod Sides
pub mod Spelled
mod TableBack
