use Rattle.std.proofs.Common.{◌≡◌, ◌+◌, ◌<◌, ◌≤◌, ℕ, true, List, [], refl, Option, None, Some, arith, length, unwrap_or}
use Rattle.std.specs.Prelude.{MatchOption, ⊤}
use Rattle.std.proofs.lemmas.List.FromFn.{length-range_with_len}
use Rattle.ballot_base.specs.CandSet.{has_member}
use Rattle.ballot_base.specs.Lists.{IsIncreasing}
use Rattle.tie_walk.specs.Ceilings.{IsBound}
use Rattle.tie_walk.proofs.LawLemmas.{IsIncreasing-range}
use Rattle.tie_walk.proofs.StepLemmas.{has_member-range}
use Rattle.row_multipliers.specs.Completions.{IsNode, IsOutOfReach, IsReaching}
use Rattle.tie_search.proofs.ReachLemmas.{best-found, completes-none}
use Rattle.tie_search.proofs.oracle.best_committee.Given.{Over}
use Rattle.tie_search.proofs.oracle.best_committee.Goals as goal
use Rattle.tie_search.proofs.oracle.best_committee.Goals.{After-unwrap_or-best}

-- the suggested committee, or the first
begins : (m k : ℕ) (all : List ℕ) (good : Option (List ℕ)) → IsIncreasing 1 m all → length all ≡ k → MatchOption good ⊤ (λ set. IsIncreasing 1 m set × (length set ≡ k))
    → IsIncreasing 1 m (unwrap_or good all) × (length (unwrap_or good all) ≡ k)
begins m k all None up size any = (up, size)
begins m k all (Some set) up size is = is

begun : (g : Over) (c : After-unwrap_or-best g) → IsIncreasing 1 (g.S.Tally.candidates c.args.search.now) c.unwrap_or-best.result × (length c.unwrap_or-best.result ≡ c.args.k)
begun g c = rw c.unwrap_or-best.ensures (begins (g.S.Tally.candidates c.args.search.now) c.args.k c.all-2.result c.good_committee.result
    (rw c.all-2.ensures (IsIncreasing-range 1 c.args.k (g.S.Tally.candidates c.args.search.now) (omega (arith, c.requires.fits)))) (rw c.all-2.ensures (length-range_with_len 1 c.args.k)) c.good_committee.ensures)

pub value-value-requires : goal.value-value-requires
value-value-requires g c = (begun g c).0

pub loop-value-init : goal.loop-value-init
loop-value-init g c =
    let begun = begun g (goal.at.loop-value-init g c).After-unwrap_or-best in
    record { candidates = begun.0; size = begun.1; value = c.value-value.ensures }

pub find-requires : goal.find-requires
find-requires g c =
    let m = g.S.Tally.candidates c.args.search.now in
    let up : IsIncreasing 1 m c.all.result = rw (c.all.ensures, c.m.ensures.value) (IsIncreasing-range 1 m m (omega arith)) in
    let is_node : IsNode m [] c.all.result = record { set_within = tt; free_within = up; apart = λ n is. refl } in
    record { is_node = rw c.empty.ensures is_node }

pub returns-in_default-clause-best : goal.returns-in_default-clause-best
returns-in_default-clause-best g c =
    let m = g.S.Tally.candidates c.args.search.now in
    let value = g.S.Tally.value_of c.args.search.now in
    let all-in : (n : ℕ) → 0 < n → n ≤ m → has_member c.all.result n ≡ true = λ n low high. rw (c.all.ensures, c.m.ensures.value) (has_member-range 1 m n (omega (arith, low)) (omega (arith, high))) in
    let none : IsOutOfReach value m [] c.all.result c.args.k (c.loop-value.value + 1) = rw c.empty.ensures at c.in_default.ensures in
    best-found value m c.args.k c.loop-value.best c.requires.fits c.loop-value.invariant.candidates c.loop-value.invariant.size
    (λ other up size. let low : value other < c.loop-value.value + 1 = none other (completes-none m c.args.k c.all.result other all-in up size) in omega (arith, low, c.loop-value.invariant.value))

pub loop-value-preserved : goal.loop-value-preserved
loop-value-preserved g c =
    let found : IsReaching (g.S.Tally.value_of c.args.search.now) (g.S.Tally.candidates c.args.search.now) [] c.all.result c.args.k (c.loop-value.value + 1) c.in-Some.better = rw c.empty.ensures at c.in-Some.ensures in
    record {
      candidates = found.completes.candidates;
      size = omega (arith, found.completes.size);
      value = c.value-value-in-loop-value.ensures;
    }

pub returns-clause-best : goal.returns-clause-best
returns-clause-best g c =
    let value = g.S.Tally.value_of c.args.search.now in
    let m = g.S.Tally.candidates c.args.search.now in
    let most : IsBound value m 0 [] c.args.k c.bound-most.result = rw c.empty-2.ensures at c.bound-most.ensures.law in
    best-found value m c.args.k c.loop-value.best c.requires.fits c.loop-value.invariant.candidates c.loop-value.invariant.size
    (λ other up size. let low : value other ≤ c.bound-most.result = most other up size in omega (arith, low, c.loop-value-test.false, c.loop-value.invariant.value))
