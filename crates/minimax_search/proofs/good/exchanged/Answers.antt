use Rattle.std.proofs.Common.{◌∙◌}
use Rattle.ballot_base.specs.Limits.{most_candidates}
use Rattle.ballot_base.proofs.Sums.{rest-increasing}
use Rattle.minimax_search.proofs.good.exchanged.Goals as goal

pub loop-candidate-init : goal.loop-candidate-init
loop-candidate-init g c =
    rw (c.into_iter-candidate-iterator.ensures.into_iter_gives ∙ c.members-candidate-items.ensures.items) c.members-candidate-items.ensures.valid

pub loop-candidate-preserved : goal.loop-candidate-preserved
loop-candidate-preserved g c =
    (rest-increasing most_candidates c.loop-candidate.candidate-iterator c.next-in-loop-candidate.new.self c.in-Some-candidate.candidate c.in-Some-candidate.ensures.steps c.loop-candidate.invariant).1
