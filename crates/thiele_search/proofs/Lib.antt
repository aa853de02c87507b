pub mod AlikeLemmas
pub mod ColumnLemmas
pub mod CoverLemmas
mod DominanceLemmas
mod Examples
pub mod GainLemmas
pub mod SymmetryLemmas
pub mod UncoveredLemmas
mod WholeLemmas
