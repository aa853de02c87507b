pub mod Families
pub mod Levels
pub mod Near
pub mod Questions
pub mod Tables
