mod Bounds
mod LineNumbers
mod Pieces
mod Places
mod Spellings
mod WordByWord
