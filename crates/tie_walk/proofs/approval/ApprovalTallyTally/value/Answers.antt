use Rattle.std.proofs.Common.{◌≡◌, ◌∙◌, sym, subst, arith}
use Rattle.ballot_base.specs.Lists.{IsIncreasing}
use Rattle.tie_walk.specs.Values.{Thiele, tally_value}
use Rattle.tie_walk.proofs.TightLemmas.{approval-sum}
use Rattle.tie_walk.proofs.approval.ApprovalTallyTally.value.Goals as goal

pub returns : goal.returns
returns g c =
    let t = c.self.inside in
    let up : IsIncreasing 1 t.profile.now.m c.args.set = subst (λ (x : Thiele). IsIncreasing 1 x.election.m c.args.set) (sym c.self.view_is) c.requires in
    subst (λ (x : Thiele). c.excess.result ≡ tally_value x c.args.set) c.self.view_is
    (c.excess.ensures.sum ∙ sym (approval-sum t.profile.now t.k t.approvals c.args.set c.self.invariant up (omega arith)))
