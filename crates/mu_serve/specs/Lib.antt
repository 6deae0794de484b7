pub mod Closing
pub mod Incoming
pub mod Laws
pub mod NextLines
pub mod Serving
pub mod SessionLines
pub mod Sessions
pub mod UnderWay
