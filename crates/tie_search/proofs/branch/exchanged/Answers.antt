use Rattle.std.proofs.Common.{◌∙◌}
use Rattle.ballot_base.specs.Limits.{most_candidates}
use Rattle.ballot_base.proofs.Sums.{rest-increasing}
use Rattle.tie_search.proofs.branch.exchanged.Goals as goal

pub loop-member-init : goal.loop-member-init
loop-member-init c = rw (c.into_iter-member-iterator.ensures.into_iter_gives ∙ c.members-member-items.ensures.items) c.members-member-items.ensures.valid

pub class-class-requires : goal.class-class-requires
class-class-requires c = (rest-increasing most_candidates c.loop-member.member-iterator c.next.new.self c.in-Some.member c.in-Some.ensures.steps c.loop-member.invariant).0

pub loop-member-preserved-then-has : goal.loop-member-preserved-then-has
loop-member-preserved-then-has c = (rest-increasing most_candidates c.loop-member.member-iterator c.next.new.self c.in-Some.member c.in-Some.ensures.steps c.loop-member.invariant).1

pub loop-member-preserved : goal.loop-member-preserved
loop-member-preserved c = (rest-increasing most_candidates c.loop-member.member-iterator c.next.new.self c.in-Some.member c.in-Some.ensures.steps c.loop-member.invariant).1
