pub mod Ahead
mod Allowing
pub mod Asking
pub mod Asks
pub mod Astray
pub mod Bringing
mod Calm
mod Commits
pub mod Copying
pub mod Due
pub mod FirstPlaces
mod Firsts
pub mod Folding
mod FuosBeside
mod Going
pub mod Growing
mod Held
pub mod Keeping
pub mod Lates
pub mod Looks
mod LooksBeside
mod Losses
mod Majorities
mod NextRows
pub mod NoteKinds
pub mod Noted
pub mod Numbering
pub mod Offers
pub mod Others
pub mod Puts
mod Quiet
pub mod Replies
mod Rests
mod Rooms
mod Rounds
pub mod Rows
mod Says
mod Sights
mod StandsBringing
mod StandsFirsts
pub mod StandsLasting
mod StandsLate
pub mod StandsOnward
mod StandsPutting
mod StandsTables
mod StandsTaken
mod Steps
pub mod Tables
mod Taking
mod Telling
pub mod Told
mod Writes
