mod Answering
pub mod Gathers
