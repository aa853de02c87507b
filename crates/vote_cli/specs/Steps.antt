pub mod Listed
pub mod Refusals
pub mod RequestFaults
pub mod ScoredText
pub mod Sharing
pub mod Starts
