pub mod Holding
pub mod Looking
pub mod Opening
pub mod Serving
pub mod Sessions
