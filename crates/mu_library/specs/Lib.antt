pub mod Calls
pub mod Engines
pub mod Front
pub mod Replicas
pub mod States
pub mod Waiting
