use Rattle.std.proofs.Common.{◌∙◌, sym}
use Rattle.ballot_base.proofs.FirstMember.{none_from_zero, split_members}
use Rattle.ballot_base.proofs.cand_set.CandSet.split_first.Goals as goal

pub returns-then-self-eq0 : goal.returns-then-self-eq0
returns-then-self-eq0 c = sym c.self.view_is ∙ none_from_zero c.self.inside.bits c.if-self-eq0.true

pub returns : goal.returns
returns c = rw (c.without.ensures, ← c.self.view_is) (split_members c.self.inside.bits c.self.invariant c.if-self-eq0.false)
