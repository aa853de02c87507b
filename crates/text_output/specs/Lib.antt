pub mod CheckText
pub mod Device
pub mod Names
pub mod Steps
pub mod Text
