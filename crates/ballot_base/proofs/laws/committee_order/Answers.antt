use Rattle.ballot_base.proofs.Committees.{increasing_lists-order, increasing_lists-once}
use Rattle.ballot_base.proofs.laws.committee_order.Goals as goal

pub returns : goal.returns
returns c = record { later = increasing_lists-order; once = increasing_lists-once }
