mod FactLists
mod Reaching
