pub mod BesideLemmas
mod Examples
pub mod PairBounds
pub mod PriceBounds
