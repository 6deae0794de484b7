mod Changing
mod Reading
