mod Cuts
mod Judgings
