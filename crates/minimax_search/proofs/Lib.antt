mod Examples
mod NearClones
pub mod NeedLemmas
pub mod WeightedNeeds
