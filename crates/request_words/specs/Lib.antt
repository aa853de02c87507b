pub mod Endings
pub mod Limits
pub mod Names
pub mod NumberList
pub mod Request
pub mod Steps
pub mod Words
