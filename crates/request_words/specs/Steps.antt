pub mod Commands
pub mod Values
