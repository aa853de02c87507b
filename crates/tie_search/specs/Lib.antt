pub mod Alike
pub mod Asked
pub mod Steps
pub mod Tied
