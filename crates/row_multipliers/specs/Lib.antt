pub mod Completions
pub mod Steps
