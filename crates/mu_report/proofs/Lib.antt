mod AccountLines
mod BookLines
mod Lists
mod LiveLines
mod Prints
mod Pushes
mod RepliesBack
mod Sentences
mod Sizes
mod Summaries
pub mod Traces
mod Writing
