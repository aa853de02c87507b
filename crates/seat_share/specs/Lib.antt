pub mod Allocations
pub mod Fair
pub mod Faults
pub mod Limits
pub mod Names
pub mod Quotients
pub mod Steps
