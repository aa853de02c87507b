pub mod Groups
pub mod Report
pub mod Names
pub mod Steps
