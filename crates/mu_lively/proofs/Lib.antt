pub mod Anew
mod Apart
pub mod Asked
mod AskedAgain
mod Beside
mod Caught
mod Causes
mod Confirms
pub mod Diligent
mod ElectionSteps
mod Elections
pub mod Fetching
mod Gathering
pub mod HeadRaises
mod HeadsRise
mod HostOnward
mod HostPlaces
pub mod HostRounds
mod HostTurns
mod Joins
mod Keeping
mod Later
mod Laws
pub mod Listed
mod Misses
mod Named
pub mod Naming
pub mod Numbered
mod Onwards
mod Open
pub mod Order
mod OwnRows
mod Places
mod Raises
mod Replaying
mod Resigning
mod RoomsAsking
mod RoomsBeside
mod RoomsBringing
mod RoomsBrought
mod RoomsCopying
mod RoomsFirsts
mod RoomsFollowers
mod RoomsHeads
mod RoomsInTime
mod RoomsLasting
mod RoomsLate
mod RoomsLearning
mod RoomsListed
mod RoomsLooking
mod RoomsMin
mod RoomsOnward
mod RoomsOutrun
mod RoomsPosition
mod RoomsPutting
mod RoomsQuiet
mod RoomsRaising
mod RoomsReading
mod RoomsWriting
pub mod Rounding
mod Turns
mod Words
