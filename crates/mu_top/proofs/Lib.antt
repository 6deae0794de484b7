mod Arrived
mod BookedLogs
mod Completed
mod Sighted
