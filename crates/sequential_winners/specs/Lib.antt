pub mod Clones
pub mod Families
pub mod Steps
