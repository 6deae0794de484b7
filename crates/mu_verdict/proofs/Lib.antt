mod AddedRows
mod AttestedItems
mod Breaking
pub mod EventLines
mod ItemLines
mod JobLines
mod JudgedEvents
mod TakenEvents
