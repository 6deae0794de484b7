mod Ending
mod Teaching
mod Walking
