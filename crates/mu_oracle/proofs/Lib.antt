mod Entries
mod Fronts
mod Slices
