pub mod Pairs
pub mod Prices
pub mod Steps
pub mod Triples
