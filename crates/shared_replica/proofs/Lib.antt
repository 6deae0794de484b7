mod Bringing
mod Knowing
