mod AsBox
mod OfServers
