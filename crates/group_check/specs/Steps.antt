pub mod Checking
pub mod Refuting
