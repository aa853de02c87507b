pub mod Bits
pub mod Lists
pub mod Subsets
pub mod Profiles
pub mod Worths
