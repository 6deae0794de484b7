mod Appending
mod EngineTraces
mod OfCalls
mod Outcomes
mod Submitting
mod Waiting
