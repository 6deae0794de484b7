pub mod Rule
pub mod Insides
pub mod Moves
pub mod Opening
pub mod Seats
