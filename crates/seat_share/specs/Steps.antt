-- Definitions that mirror steps of the code.
pub mod Choices
pub mod Claims
pub mod Standings
