pub mod AlikeLemmas
pub mod BranchLemmas
pub mod CloneLemmas
pub mod DescentLemmas
pub mod EnteredLemmas
mod Examples
pub mod FoundLemmas
pub mod ListLemmas
pub mod ReachLemmas
pub mod StackLemmas
pub mod StartLemmas
