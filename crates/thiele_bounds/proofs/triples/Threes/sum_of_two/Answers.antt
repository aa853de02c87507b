use Rattle.std.proofs.Common.{◌≡◌, ℕ, ◌-◌, ◌*◌, ◌<◌, ◌≤◌, ◌∙◌, true, inl, inr, ap, arith}
use Rattle.std.specs.Prelude.{slice_index}
use Rattle.std.proofs.lemmas.Bool.{cases_lt}
use Rattle.ballot_base.specs.CandSet.{has_member, without_member}
use Rattle.ballot_base.specs.Limits.{most_candidates}
use Rattle.row_multipliers.proofs.CompletionLemmas.{member-high, without-is, without-not}
use Rattle.thiele_bounds.specs.Triples.{threshold_sum}
use Rattle.thiele_bounds.specs.Steps.Threes.{roughly, three_of, three_rough}
use Rattle.thiele_bounds.proofs.PairBounds.CubicLemmas.{threshold-rough}
use Rattle.thiele_bounds.proofs.triples.Threes.sum_of_two.Goals as goal
use Rattle.thiele_bounds.proofs.triples.Threes.sum_of_two.Goals.{After-set_above}

-- the worths of all others are made
others-made : (c : After-set_above) (l : ℕ) → has_member (without_member (without_member c.args.self.now.node.now.free c.args.i) c.args.j) l ≡ true
    → slice_index c.set_above.new.worths l ≡ three_rough c.args.self.now c.args.i c.args.j l
others-made c l here =
    let free = c.args.self.now.node.now.free in
    let i = c.args.i in
    let j = c.args.j in
    let order = c.requires.order in
    let is = without-is (without_member free i) j l here in
    let in_ = without-is free i l is in
    let apart = without-not free i l is in
    let other = without-not (without_member free i) j l here in
    elim (cases_lt l j) [
      | inl less ↦
          c.set_above.ensures.kept l (omega (arith, less, order)) ∙ c.set_between.ensures.kept l (λ more below. absurd (omega (arith, more, less))) ∙ c.set_below.ensures.made l in_ less
      | inr high ↦ elim (cases_lt l i) [
        | inl below ↦
            c.set_above.ensures.kept l (omega (arith, below)) ∙ c.set_between.ensures.made l in_ (between j l high other) below
        | inr beyond ↦ c.set_above.ensures.made l in_ (between i l beyond apart)
      ]
    ]
  where
    between : (a b : ℕ) → a ≤ b → (b ≡ a → ⊥) → a < b
    between a b few unlike = elim (cases_lt a b) [
      | inl less ↦ less
      | inr most ↦ absurd (unlike (omega (arith, few, most)))
    ]

pub set-requires-clause-candidate : goal.set-requires-clause-candidate
set-requires-clause-candidate c = member-high 1 most_candidates c.args.self.now.node.now.free c.args.i c.requires.threes.candidates c.requires.first

pub set-requires-2-clause-candidate : goal.set-requires-2-clause-candidate
set-requires-2-clause-candidate c = member-high 1 most_candidates c.args.self.now.node.now.free c.args.j c.requires.threes.candidates c.requires.second

pub returns : goal.returns
returns c =
    let self = c.args.self.now in
    let worths = c.set_above.new.worths in
    let bound = c.bound.ensures in
    let others = without_member (without_member self.node.now.free c.args.i) c.args.j in
    let are = c.without-others.ensures ∙ ap (λ x. without_member x c.args.j) c.without.ensures in
    let made = others-made (goal.at.returns c).After-set_above in (
      roughly * bound.0,
      omega (
        arith,
        bound.1,
        ap (λ xs. threshold_sum (slice_index worths) xs (self.node.now.left - 2) bound.0) are,
        threshold-rough (three_of self c.args.i c.args.j) (slice_index worths) others (self.node.now.left - 2) bound.0 (λ l here. omega (arith, made l here)),
      ),
    )
