pub mod Needs
pub mod Steps
