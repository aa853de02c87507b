use Rattle.std.proofs.Common.{◌+◌, ◌≤◌, arith, sym, subst}
use Rattle.ballot_base.specs.Limits.{most_voters}
use Rattle.ballot_base.specs.Lists.{IsIncreasing}
use Rattle.ballot_base.specs.Ballots.{Election}
use Rattle.ballot_base.proofs.RowLemmas.{IsCounted-with_votes}
use Rattle.ballot_base.proofs.profile.ProfileBuilder.add.Goals as goal

pub invariant_of-self : goal.invariant_of-self
invariant_of-self g c =
    let own : IsIncreasing 1 c.self.inside.m c.args.set = subst (λ (e : Election). IsIncreasing 1 e.m c.args.set) (sym c.self.view_is) c.requires.ballot in
    let room : c.self.inside.voters + c.args.count ≤ most_voters = omega (arith, c.self.invariant.total, c.self.invariant.valid.voters) in
    IsCounted-with_votes _ _ c.self.inside.rows _ _ c.args.set c.args.count c.self.invariant own c.requires.voters room c.in-Ok.ensures.ok

pub returns-in-Ok-clause-valid : goal.returns-in-Ok-clause-valid
returns-in-Ok-clause-valid g c =
    let own : IsIncreasing 1 c.self.inside.m c.args.set = subst (λ (e : Election). IsIncreasing 1 e.m c.args.set) (sym c.self.view_is) c.requires.ballot in
    let room : c.self.inside.voters + c.args.count ≤ most_voters = omega (arith, c.self.invariant.total, c.self.invariant.valid.voters) in
    (IsCounted-with_votes _ _ c.self.inside.rows _ _ c.args.set c.args.count c.self.invariant own c.requires.voters room c.in-Ok.ensures.ok).valid
