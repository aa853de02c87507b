pub mod Constraints
pub mod Limits
pub mod Narrowed
