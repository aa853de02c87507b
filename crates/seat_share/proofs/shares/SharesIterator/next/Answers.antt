use Rattle.std.proofs.Common.{◌∙◌, ap, length}
use Rattle.seat_share.specs.Steps.Standings.{standings}
use Rattle.seat_share.proofs.ShareLemmas.{still-choosing}
use Rattle.seat_share.proofs.shares.SharesIterator.next.Goals as goal

pub invariant_of-self : goal.invariant_of-self
invariant_of-self c =
    let parties = c.self.inside.parties.items in
    let value = c.as_mut_slice.ensures.value in
    still-choosing parties c.advance-self-inside.new.parties (c.advance-self-inside.auto.parties ∙ ap length value) c.self.invariant
    (c.advance-self-inside.ensures.same ∙ ap standings value) c.advance-self-inside.ensures.tied
