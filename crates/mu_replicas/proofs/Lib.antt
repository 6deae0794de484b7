mod Numbers
mod Points
mod Whole
