pub mod Faults
pub mod States
pub mod Views
