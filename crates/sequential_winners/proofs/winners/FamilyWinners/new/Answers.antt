use Rattle.std.proofs.Common.{◌≡◌, ◌≤◌, ◌∙◌, List, ℕ, All, ap, cond, length, subst, sym}
use Rattle.ballot_base.specs.Lists.{AreInOrder, later_than}
use Rattle.tie_walk.specs.Winners.{winners}
use Rattle.tie_walk.proofs.SequenceLaws.{sequential-later, sequential-sizes}
use Rattle.sequential_winners.specs.Families.{Sequential, is_winner}
use Rattle.sequential_winners.proofs.ExistLemmas.{winners-are}
use Rattle.tie_walk.proofs.StartLemmas.{starts-fit}
use Rattle.sequential_winners.proofs.winners.FamilyWinners.new.Goals as goal

pub first_later-requires-clause-order : goal.first_later-requires-clause-order
first_later-requires-clause-order g c =
    let s : Sequential = c.args.families.now in
    subst AreInOrder (sym c.in-Some.ensures) (sequential-later s.rule s.election s.k)

pub first_later-requires-clause-sizes : goal.first_later-requires-clause-sizes
first_later-requires-clause-sizes g c =
    let s : Sequential = c.args.families.now in
    starts-fit s.election.m s.k c.args.after c.in-Some.sets.now c.requires (subst (λ l. All (λ set. length set ≡ s.k) l) (sym c.in-Some.ensures) (sequential-sizes s.rule s.election s.k))

pub returns : goal.returns
returns g c =
    let s : Sequential = c.args.families.now in
    let value : List ℕ → ℕ = λ (w : List ℕ). cond (is_winner s w) 1 0 in
    let f = c.families.inside in
    let fits : s.k ≤ s.election.m = subst (λ (t : Sequential). t.k ≤ t.election.m) c.families.view_is c.families.invariant.0.fits in
    c.new.ensures.left
    ∙ ap (λ n. later_than c.args.after (winners value n f.k)) c.m.ensures.value
    ∙ ap (λ n. later_than c.args.after (winners value s.election.m n)) (ap (λ (t : Sequential). t.k) c.families.view_is)
    ∙ ap (later_than c.args.after) (winners-are s fits)
