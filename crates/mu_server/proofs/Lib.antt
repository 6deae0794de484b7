mod Lists
mod Lives
mod Steps
mod Slots
