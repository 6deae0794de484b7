pub mod Cutting
pub mod Decimals
mod Digits
mod FirstWords
mod LastDigits
mod Places
pub mod SpelledWords
mod Wide
