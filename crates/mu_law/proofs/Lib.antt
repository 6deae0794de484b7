mod Found
mod Grants
mod Lists
mod Stepping
