-- The first of the members that are left, and the others.
pub use Rattle.ballot_base.proofs.MemberLemmas.{first-gone, first-in, first-low, later-in, others-same}
