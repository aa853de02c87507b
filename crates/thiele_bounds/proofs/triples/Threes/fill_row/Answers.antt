use Rattle.std.proofs.Common.{◌≡◌, ℕ, ◌-◌, ◌<◌, ◌≤◌, ◌∙◌, true, false, inl, inr, sym, ap, subst, arith, set}
use Rattle.std.proofs.lemmas.Bool.{cases_eq}
use Rattle.std.proofs.lemmas.List.{length-set}
use Rattle.ballot_base.specs.CandSet.{has_member, members_upto}
use Rattle.ballot_base.specs.Limits.{most_candidates}
use Rattle.row_multipliers.proofs.CompletionLemmas.{member-high, member-low}
use Rattle.row_multipliers.proofs.MemberLemmas.{first-in, later-in, others-same}
use Rattle.row_multipliers.proofs.SearchLemmas.{rest-increasing}
use Rattle.thiele_bounds.specs.Steps.Paired.{overlap_at, pair_place}
use Rattle.thiele_bounds.specs.Steps.Threes.{IsSumOfTwo}
use Rattle.thiele_bounds.proofs.PairBounds.OverlapLemmas.{pair-within}
use Rattle.thiele_bounds.proofs.PairBounds.PlaceLemmas.{upto-among, upto-before, upto-same}
use Rattle.thiele_bounds.proofs.PairBounds.TurnLemmas.{two-kept, two-made}
use Rattle.thiele_bounds.proofs.triples.Threes.fill_row.Goals as goal
use Rattle.thiele_bounds.proofs.triples.Threes.fill_row.Goals.{Start, In-Some}

i-low : (c : Start) → c.args.i ≤ most_candidates
i-low c = member-high 1 most_candidates c.args.self.now.node.now.free c.args.i c.requires.threes.candidates c.requires.member

i-some : (c : Start) → 1 ≤ c.args.i
i-some c = member-low 1 most_candidates c.args.self.now.node.now.free c.args.i c.requires.threes.candidates c.requires.member

pub overflow_sub-i : goal.overflow_sub-i
overflow_sub-i c = i-some (goal.at.overflow_sub-i c).Start

pub upto-requires : goal.upto-requires
upto-requires c = let low = i-low (goal.at.upto-requires c).Start in omega (arith, low)

pub loop-j-init : goal.loop-j-init
loop-j-init c =
    let all = c.into_iter-j-iterator.ensures.into_iter_gives ∙ c.members-j-items.ensures.items in
    let free = c.args.self.now.node.now.free in
    let is : (x : ℕ) → has_member c.upto.result x ≡ has_member (members_upto free (c.args.i - 1)) x = λ x. ap (λ xs. has_member xs x) c.upto.ensures in
    rw all record {
      long = omega (arith, c.told-twos);
      rises = c.members-j-items.ensures.valid;
      among = λ x in_. upto-among free (c.args.i - 1) x (sym (is x) ∙ in_);
      before = λ x in_. upto-before free c.args.i x (i-some (goal.at.loop-j-init c).Start) (sym (is x) ∙ in_);
      made = λ x in_ out low. absurd (let e : true ≡ false = sym in_ ∙ sym (upto-same free c.args.i x low) ∙ sym (is x) ∙ out in cc);
      others = λ a b low apart. omega arith;
    }

j-before : (c : In-Some) → c.in-Some.j < c.args.i
j-before c = c.loop-j.invariant.before c.in-Some.j (first-in c.loop-j.j-iterator c.next.new.self c.in-Some.j c.in-Some.ensures.steps c.loop-j.invariant.rises)

pub bounds-twos-place : goal.bounds-twos-place
bounds-twos-place c =
    let at = goal.at.bounds-twos-place c in
    let low = i-low at.Start in
    let before = j-before at.In-Some in
    omega (arith, c.place.ensures, pair-within c.args.i c.in-Some.j low (let few : c.in-Some.j ≤ most_candidates = omega (arith, low, before) in few))

pub sum_of_two-requires-clause-order : goal.sum_of_two-requires-clause-order
sum_of_two-requires-clause-order c = j-before (goal.at.sum_of_two-requires-clause-order c).In-Some

pub loop-j-preserved : goal.loop-j-preserved
loop-j-preserved c =
    let self = c.args.self.now in
    let i = c.args.i in
    let twos = c.loop-j.twos in
    let left = c.loop-j.j-iterator in
    let rest = c.next.new.self in
    let first = c.in-Some.j in
    let steps = c.in-Some.ensures.steps in
    let inv = c.loop-j.invariant in
    let v = c.sum_of_two.result in
    let low = i-low (goal.at.loop-j-preserved c).Start in
    let before = j-before (goal.at.loop-j-preserved c).In-Some in
    rw c.place.ensures record {
      long = length-set twos (pair_place i first) v ∙ inv.long;
      rises = (rest-increasing most_candidates left rest first steps inv.rises).1;
      among = λ x is. inv.among x (later-in left rest first steps inv.rises x is);
      before = λ x is. inv.before x (later-in left rest first steps inv.rises x is);
      made = λ x in_ gone less. elim (cases_eq x first) [
        | inl same ↦
            subst (λ y. IsSumOfTwo self i y (overlap_at (set twos (pair_place i first) v) i y)) (sym same)
            (subst (λ n. IsSumOfTwo self i first n) (sym (two-made twos i first v inv.long low before)) c.sum_of_two.ensures)
        | inr other ↦
            subst (λ n. IsSumOfTwo self i x n) (sym (two-kept twos i first v inv.long low before i x less (λ one. other)))
            (inv.made x in_ (others-same left rest first steps inv.rises x other ∙ gone) less)
      ];
      others = λ a b less apart. two-kept twos i first v inv.long low before a b less (λ one two. apart one) ∙ inv.others a b less apart;
    }

pub returns : goal.returns
returns c = record {
  made = λ j in_ low. c.loop-j.invariant.made j in_ (ap (λ xs. has_member xs j) c.in-None.ensures.steps.0) low;
  others = c.loop-j.invariant.others;
}
