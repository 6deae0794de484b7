mod Standing
mod Running
mod Adding
mod Handing
mod Judging
