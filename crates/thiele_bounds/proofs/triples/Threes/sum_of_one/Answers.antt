use Rattle.std.proofs.Common.{rules, ◌≡◌, ℕ, ◌-◌, ◌*◌, ◌^◌, ◌≤◌, ◌∙◌, true, false, sym, ap, arith, get_or}
use Rattle.std.specs.Prelude.{slice_index}
use Rattle.ballot_base.specs.CandSet.{has_member, without_member}
use Rattle.ballot_base.specs.Limits.{most_candidates}
use Rattle.thiele_bounds.specs.Triples.{sum_of_two, threshold_sum}
use Rattle.thiele_bounds.specs.Steps.Threes.{roughly, three_of}
use Rattle.row_multipliers.proofs.MemberLemmas.{first-in, first-low, later-in}
use Rattle.row_multipliers.proofs.SearchLemmas.{rest-increasing}
use Rattle.thiele_bounds.proofs.PairBounds.CubicLemmas.{choose, chosen, threshold-less}
use Rattle.thiele_bounds.proofs.PairBounds.OverlapLemmas.{one-made, one-most, pair-within}
use Rattle.thiele_bounds.proofs.PairBounds.TripleLemmas.{rest-rises}
use Rattle.thiele_bounds.proofs.PairBounds.TurnLemmas.{two-read}
use Rattle.row_multipliers.proofs.CompletionLemmas.{member-high, without-is, without-not}
use Rattle.thiele_bounds.proofs.triples.Threes.sum_of_one.Goals as goal
use Rattle.thiele_bounds.proofs.triples.Threes.sum_of_one.Goals.{After-from, In-Some}

pub loop-j-init : goal.loop-j-init
loop-j-init c =
    let all = c.into_iter-j-iterator.ensures.into_iter_gives ∙ c.members-j-items.ensures.items in
    let are = c.without-others.ensures in
    rw all record {
      rises = c.members-j-items.ensures.valid;
      among = λ x is. ap (λ xs. has_member xs x) (sym are) ∙ is;
      made = λ x in_ out. absurd (let e : true ≡ false = sym in_ ∙ ap (λ xs. has_member xs x) (sym are) ∙ out in cc);
      small = λ x. omega (arith, c.none-sums.ensures x);
    }

pub bounds-twos-place : goal.bounds-twos-place
bounds-twos-place c =
    let low = first-low c.loop-j.j-iterator c.next.new.self c.in-Some.j c.in-Some.ensures.steps c.loop-j.invariant.rises in
    omega (arith, c.place.ensures, pair-within c.args.i c.in-Some.j (member-high 1 most_candidates c.args.self.now.node.now.free c.args.i c.requires.threes.candidates c.requires.member) low)

-- a sum is a word
sum-small : (c : After-from) → roughly * c.from.result ≤ 2 ^ 94
sum-small c = omega (arith, word-fits c)
  where
    word-fits : (c : After-from) → c.from.result ≤ 2 ^ 64
    word-fits c = search rules

-- what is read bounds the sum of two
sum-read : (c : After-from)
    → (third : ℕ) × (sum_of_two (three_of c.args.self.now) c.args.self.now.node.now.free c.args.self.now.node.now.left (λ i j. third) c.args.i c.in-Some.j ≤ roughly * c.from.result)
sum-read c =
    let self = c.args.self.now in
    let there = c.loop-j.invariant.among c.in-Some.j (first-in c.loop-j.j-iterator c.next.new.self c.in-Some.j c.in-Some.ensures.steps c.loop-j.invariant.rises) in
    let read = two-read self c.args.twos.now c.requires.threes c.requires.twos c.args.i c.in-Some.j c.requires.member (without-is self.node.now.free c.args.i c.in-Some.j there) (without-not self.node.now.free c.args.i c.in-Some.j there) in (
      read.0,
      omega (arith, read.1, c.from.ensures, ap (λ n. get_or c.args.twos.now n 0) c.place.ensures),
    )

pub set-requires-clause-candidate : goal.set-requires-clause-candidate
set-requires-clause-candidate c = first-low c.loop-j.j-iterator c.next.new.self c.in-Some.j c.in-Some.ensures.steps c.loop-j.invariant.rises

pub set-requires-clause-small : goal.set-requires-clause-small
set-requires-clause-small c = omega (arith, sum-small (goal.at.set-requires-clause-small c).After-from)

pub loop-j-preserved : goal.loop-j-preserved
loop-j-preserved c =
    let at = (goal.at.loop-j-preserved c).After-from in
    let self = c.args.self.now in
    let rest = c.loop-j.j-iterator in
    let first = c.in-Some.j in
    let inv = c.loop-j.invariant in
    record {
      rises = (rest-increasing most_candidates rest c.next.new.self first c.in-Some.ensures.steps inv.rises).1;
      among = λ x is. inv.among x (later-in rest c.next.new.self first c.in-Some.ensures.steps inv.rises x is);
      made = one-made rest c.next.new.self first c.in-Some.ensures.steps inv.rises c.loop-j.sums c.set.new.self (roughly * c.from.result) c.set.ensures
          (λ x n. (third : ℕ) × (sum_of_two (three_of self) self.node.now.free self.node.now.left (λ i j. third) c.args.i x ≤ n)) (without_member self.node.now.free c.args.i) (sum-read at) inv.made;
      small = one-most rest c.next.new.self first c.in-Some.ensures.steps inv.rises c.loop-j.sums c.set.new.self (roughly * c.from.result) c.set.ensures (2 ^ 100) (omega (arith, sum-small at)) inv.small;
    }

pub bound_of-requires-clause-candidates : goal.bound_of-requires-clause-candidates
bound_of-requires-clause-candidates c = rw c.without-others.ensures (rest-rises most_candidates c.args.i c.args.self.now.node.now.free c.requires.threes.candidates)

pub bound_of-requires-clause-fits : goal.bound_of-requires-clause-fits
bound_of-requires-clause-fits c n = c.loop-j.invariant.small n

pub returns-clause-sum : goal.returns-clause-sum
returns-clause-sum c =
    let self = c.args.self.now in
    let sums = c.loop-j.sums in
    let others = without_member self.node.now.free c.args.i in
    let sum = c.bound_of.ensures.sum in
    let some : (x : ℕ) → has_member others x ≡ true → (third : ℕ) × (sum_of_two (three_of self) self.node.now.free self.node.now.left (λ i j. third) c.args.i x ≤ get_or sums x 0) =
    λ x here. c.loop-j.invariant.made x here (ap (λ xs. has_member xs x) c.in-None.ensures.steps.0) in
    let third : ℕ → ℕ = choose (λ x t. sum_of_two (three_of self) self.node.now.free self.node.now.left (λ i j. t) c.args.i x ≤ get_or sums x 0) others 0 some in (
      third,
      sum.0,
      omega (
        arith,
        sum.1,
        ap (λ xs. threshold_sum (slice_index sums) xs (self.node.now.left - 1) sum.0) c.without-others.ensures,
        threshold-less (sum_of_two (three_of self) self.node.now.free self.node.now.left (λ n. third) c.args.i) (slice_index sums) others (self.node.now.left - 1) sum.0
            (λ x here. chosen (λ y t. sum_of_two (three_of self) self.node.now.free self.node.now.left (λ i j. t) c.args.i y ≤ get_or sums y 0) others 0 some x here),
      ),
    )

pub returns-clause-small : goal.returns-clause-small
returns-clause-small c = omega (arith, c.bound_of.ensures.small (2 ^ 100) c.loop-j.invariant.small)
