pub mod Values
pub mod Ceilings
pub mod Winners
pub mod Sequences
pub mod Steps
