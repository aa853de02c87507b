-- Bounds by pairs of members.
pub mod CubicLemmas
pub mod CubicNodes
pub mod MajorantLemmas
pub mod OverlapLemmas
pub mod PairLemmas
pub mod PairNodes
pub mod PairTotals
pub mod PartLemmas
pub mod PlaceLemmas
pub mod SumLemmas
pub mod TripleLemmas
pub mod TripleSums
pub mod TurnLemmas
