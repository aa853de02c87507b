pub mod Branches
pub mod Descent
pub mod Found
pub mod Searched
