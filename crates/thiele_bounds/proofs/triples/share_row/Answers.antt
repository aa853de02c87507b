use Rattle.std.proofs.Common.{◌≡◌, ℕ, ◌+◌, ◌-◌, ◌*◌, ◌/◌, ◌^◌, ◌<◌, ◌≤◌, ◌∙◌, true, false, inl, inr, sym, ap, subst, arith, get_or, set}
use Rattle.std.proofs.lemmas.Bool.{cases_eq}
use Rattle.std.proofs.lemmas.List.{length-set}
use Rattle.ballot_base.specs.CandSet.{has_member, members_upto}
use Rattle.ballot_base.specs.Limits.{most_candidates}
use Rattle.row_multipliers.proofs.CompletionLemmas.{member-high, member-low}
use Rattle.row_multipliers.proofs.MemberLemmas.{first-in, later-in, others-same}
use Rattle.row_multipliers.proofs.SearchLemmas.{rest-increasing}
use Rattle.thiele_bounds.specs.Steps.Paired.{overlap_at, pair_place}
use Rattle.thiele_bounds.specs.Steps.Threes.{IsPart, roughly}
use Rattle.thiele_bounds.proofs.PairBounds.OverlapLemmas.{pair-within}
use Rattle.thiele_bounds.proofs.PairBounds.PartLemmas.{later-not, spare-small}
use Rattle.thiele_bounds.proofs.PairBounds.PlaceLemmas.{upto-among, upto-before, upto-same}
use Rattle.thiele_bounds.proofs.PairBounds.TurnLemmas.{two-kept, two-made}
use Rattle.thiele_bounds.proofs.triples.share_row.Goals as goal
use Rattle.thiele_bounds.proofs.triples.share_row.Goals.{Start, In-Some}

i-low : (c : Start) → c.args.i ≤ most_candidates
i-low c = member-high 1 most_candidates c.args.node.now.free c.args.i c.requires.can.candidates c.requires.member

i-some : (c : Start) → 1 ≤ c.args.i
i-some c = member-low 1 most_candidates c.args.node.now.free c.args.i c.requires.can.candidates c.requires.member

pub overflow_sub-i : goal.overflow_sub-i
overflow_sub-i c = i-some (goal.at.overflow_sub-i c).Start

pub upto-requires : goal.upto-requires
upto-requires c = let low = i-low (goal.at.upto-requires c).Start in omega (arith, low)

pub loop-j-init : goal.loop-j-init
loop-j-init c =
    let all = c.into_iter-j-iterator.ensures.into_iter_gives ∙ c.members-j-items.ensures.items in
    let free = c.args.node.now.free in
    let is : (x : ℕ) → has_member c.upto.result x ≡ has_member (members_upto free (c.args.i - 1)) x = λ x. ap (λ xs. has_member xs x) c.upto.ensures in
    rw all record {
      long = omega (arith, c.told-pairs);
      rises = c.members-j-items.ensures.valid;
      among = λ x in_. upto-among free (c.args.i - 1) x (sym (is x) ∙ in_);
      before = λ x in_. upto-before free c.args.i x (i-some (goal.at.loop-j-init c).Start) (sym (is x) ∙ in_);
      made = λ x in_ out low. absurd (let e : true ≡ false = sym in_ ∙ sym (upto-same free c.args.i x low) ∙ sym (is x) ∙ out in cc);
      later = λ x in_. omega arith;
      others = λ a b low apart. omega arith;
    }

j-before : (c : In-Some) → c.in-Some.j < c.args.i
j-before c = c.loop-j.invariant.before c.in-Some.j (first-in c.loop-j.j-iterator c.next.new.self c.in-Some.j c.in-Some.ensures.steps c.loop-j.invariant.rises)

place-low : (c : In-Some) → pair_place c.args.i c.in-Some.j < 2145
place-low c =
    let i = member-high 1 most_candidates c.args.node.now.free c.args.i c.requires.can.candidates c.requires.member in
    pair-within c.args.i c.in-Some.j i (let few : c.in-Some.j ≤ most_candidates = omega (arith, i, j-before c) in few)

pub bounds-pairs-at : goal.bounds-pairs-at
bounds-pairs-at c = omega (arith, c.place-at.ensures, place-low (goal.at.bounds-pairs-at c).In-Some)

pub of-requires : goal.of-requires
of-requires c = i-low (goal.at.of-requires c).Start

pub bounds-pairs-at-in-loop-j : goal.bounds-pairs-at-in-loop-j
bounds-pairs-at-in-loop-j c = omega (arith, c.place-at.ensures, place-low (goal.at.bounds-pairs-at-in-loop-j c).In-Some)

pub loop-j-preserved : goal.loop-j-preserved
loop-j-preserved c =
    let i = c.args.i in
    let node = c.args.node.now in
    let worths = c.args.worths.now in
    let begun = c.args.pairs.now in
    let pairs = c.loop-j.pairs in
    let left = c.loop-j.j-iterator in
    let rest = c.next.new.self in
    let first = c.in-Some.j in
    let steps = c.in-Some.ensures.steps in
    let inv = c.loop-j.invariant in
    let v : ℕ = (c.of.result + c.of-in-loop-j.result + 2 * c.from-others.result * c.from.result) / (2 * roughly) + 1 in
    let low = i-low (goal.at.loop-j-preserved c).Start in
    let before = j-before (goal.at.loop-j-preserved c).In-Some in
    let below : c.from.result ≡ c.args.most - overlap_at begun i first =
    omega (arith, c.from.ensures, c.saturating_sub.ensures, ap (λ n. get_or pairs n 0) c.place-at.ensures, inv.later first (first-in left rest first steps inv.rises)) in
    let spare : 2 * c.from-others.result * c.from.result ≡ 2 * (node.left - 1) * (c.args.most - overlap_at begun i first) =
    ap (λ n. 2 * n * c.from.result) c.from-others.ensures ∙ ap (λ n. 2 * (node.left - 1) * n) below in
    let fits : 2 * c.from-others.result * c.from.result ≤ 510 * 2 ^ 58 =
    spare-small c.from-others.result c.args.most c.from.result (omega (arith, c.from-others.ensures, c.requires.can.few)) (omega (arith, below)) c.requires.can.most_small in
    let part : IsPart worths begun node.left c.args.most i first v = record {
      enough = omega (arith, spare, c.of.ensures.value, c.of-in-loop-j.ensures.value);
      small = omega (arith, fits, c.of.ensures.value, c.of-in-loop-j.ensures.value, c.requires.can.worths_small i, c.requires.can.worths_small first);
    } in
    rw c.place-at.ensures record {
      long = length-set pairs (pair_place i first) v ∙ inv.long;
      rises = (rest-increasing most_candidates left rest first steps inv.rises).1;
      among = λ x is. inv.among x (later-in left rest first steps inv.rises x is);
      before = λ x is. inv.before x (later-in left rest first steps inv.rises x is);
      made = λ x in_ gone less. elim (cases_eq x first) [
        | inl same ↦
            subst (λ y. IsPart worths begun node.left c.args.most i y (overlap_at (set pairs (pair_place i first) v) i y)) (sym same)
            (subst (λ n. IsPart worths begun node.left c.args.most i first n) (sym (two-made pairs i first v inv.long low before)) part)
        | inr other ↦
            subst (λ n. IsPart worths begun node.left c.args.most i x n) (sym (two-kept pairs i first v inv.long low before i x less (λ one. other)))
            (inv.made x in_ (others-same left rest first steps inv.rises x other ∙ gone) less)
      ];
      later = λ x is.
          two-kept pairs i first v inv.long low before i x (inv.before x (later-in left rest first steps inv.rises x is)) (λ one. later-not left rest first steps inv.rises x is)
          ∙ inv.later x (later-in left rest first steps inv.rises x is);
      others = λ a b less apart. two-kept pairs i first v inv.long low before a b less (λ one two. apart one) ∙ inv.others a b less apart;
    }

pub returns : goal.returns
returns c = record {
  made = λ j in_ low. c.loop-j.invariant.made j in_ (ap (λ xs. has_member xs j) c.in-None.ensures.steps.0) low;
  others = c.loop-j.invariant.others;
}
