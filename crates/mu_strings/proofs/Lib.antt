mod Fronts
mod ReadBack
