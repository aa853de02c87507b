use Rattle.std.proofs.Common.{◌≡◌, ℕ, ◌+◌, ◌^◌, ◌<◌, ◌≤◌, ◌==◌, ◌∙◌, cond, [], ◌∷◌, sym, ap, arith, max, min}
use Rattle.ballot_base.specs.CandSet.{has_member, members_upto, with_member}
use Rattle.ballot_base.specs.Limits.{most_candidates}
use Rattle.row_multipliers.proofs.MemberLemmas.{first-in, first-low, later-in}
use Rattle.row_multipliers.proofs.SearchLemmas.{rest-increasing}
use Rattle.thiele_bounds.proofs.PairBounds.OverlapLemmas.{portion, portion-none, portion-pair, rows-fit, rows-more}
use Rattle.thiele_bounds.proofs.PairBounds.PlaceLemmas.{cond-most, first-some, one-low, one-more, one-most, one-other, own-and-before, plane-part, upto-before}
use Rattle.thiele_bounds.specs.Steps.Paired.{overlap_at}
use Rattle.thiele_bounds.specs.Steps.Places.{word_at}
use Rattle.thiele_bounds.proofs.triple_table.add_threes.Goals as goal
use Rattle.thiele_bounds.proofs.triple_table.add_threes.Goals.{After-with, In-Some}

pub loop-high-init : goal.loop-high-init
loop-high-init c =
    let all = c.into_iter-high-iterator.ensures.into_iter_gives ∙ c.members-high-items.ensures.items in
    rw all record {
      kept = omega arith;
      rises = c.members-high-items.ensures.valid;
      room = c.requires.room;
      among = λ n is. is;
      paired = λ i j low. omega arith;
      made = λ z y x one two. omega arith;
    }

-- the first of those who are left, as a set
own : (c : After-with) → c.with.result ≡ c.in-Some.high ∷ []
own c = c.with.ensures ∙ ap (λ l. with_member l c.in-Some.high) c.empty.ensures

high-fits : (c : In-Some) (j : ℕ) → j ≤ c.in-Some.high → overlap_at c.loop-high.pairs c.in-Some.high j + c.args.amounts.two < 2 ^ 64
high-fits c =
    rows-fit c.loop-high.high-iterator c.next.new.self c.in-Some.high c.in-Some.ensures.steps c.loop-high.invariant.rises c.loop-high.pairs c.args.pairs.now c.loop-high.pairs c.args.members c.args.amounts.two c.loop-high.invariant.paired (2 ^ 64) c.requires.pairs_fit

pub with-requires-clause-low : goal.with-requires-clause-low
with-requires-clause-low c = first-some c.loop-high.high-iterator c.next.new.self c.in-Some.high c.in-Some.ensures.steps c.loop-high.invariant.rises

pub with-requires-clause-high : goal.with-requires-clause-high
with-requires-clause-high c = first-low c.loop-high.high-iterator c.next.new.self c.in-Some.high c.in-Some.ensures.steps c.loop-high.invariant.rises

pub add_to_pairs-requires-clause-within : goal.add_to_pairs-requires-clause-within
add_to_pairs-requires-clause-within c = first-low c.loop-high.high-iterator c.next.new.self c.in-Some.high c.in-Some.ensures.steps c.loop-high.invariant.rises

pub add_to_pairs-requires-clause-columns : goal.add_to_pairs-requires-clause-columns
add_to_pairs-requires-clause-columns c n is =
    one-most c.in-Some.high n (sym (ap (λ l. has_member l n) (own (goal.at.add_to_pairs-requires-clause-columns c).After-with)) ∙ is)

pub add_to_pairs-requires-clause-fits : goal.add_to_pairs-requires-clause-fits
add_to_pairs-requires-clause-fits c = high-fits (goal.at.add_to_pairs-requires-clause-fits c).In-Some

pub add_to_plane-requires-clause-within : goal.add_to_plane-requires-clause-within
add_to_plane-requires-clause-within c = first-low c.loop-high.high-iterator c.next.new.self c.in-Some.high c.in-Some.ensures.steps c.loop-high.invariant.rises

pub add_to_plane-requires-clause-pairs_fit : goal.add_to_plane-requires-clause-pairs_fit
add_to_plane-requires-clause-pairs_fit c j low =
    let at = goal.at.add_to_plane-requires-clause-pairs_fit c in
    let high = c.in-Some.high in
    let two = c.args.amounts.two in
    let less : min high j ≡ j = omega (arith, low) in
    omega (
      arith,
      high-fits at.In-Some j (omega (arith, low)),
      c.add_to_pairs.ensures high j,
      ap (λ l. portion (max high j == high) (has_member l (min high j)) two) (own at.After-with),
      ap (λ n. portion (max high j == high) (has_member (high ∷ []) n) two) less,
      ap (λ b. portion (max high j == high) b two) (one-other high j (λ e. absurd (omega (arith, e, low)))),
      portion-none (max high j == high) two,
    )

pub add_to_plane-requires-clause-before : goal.add_to_plane-requires-clause-before
add_to_plane-requires-clause-before c n is =
    upto-before c.args.members c.in-Some.high n (first-some c.loop-high.high-iterator c.next.new.self c.in-Some.high c.in-Some.ensures.steps c.loop-high.invariant.rises)
    (rw c.upto.ensures at is)

pub add_to_plane-requires-clause-fits : goal.add_to_plane-requires-clause-fits
add_to_plane-requires-clause-fits c y x low below =
    let high = c.in-Some.high in
    let part : ℕ = cond (has_member c.args.members y) (cond (has_member c.args.members x) c.args.amounts.three 0) 0 in
    let fit = one-low c.loop-high.high-iterator c.next.new.self high c.in-Some.ensures.steps c.loop-high.invariant.rises (word_at c.loop-high.triples high y x) (word_at c.args.triples.now high y x)
    (cond (has_member c.args.members high) part 0) part (cond-most (has_member c.args.members high) part) (c.loop-high.invariant.made high y x low below) in
    omega (arith, fit, c.requires.fits high y x low below)

pub loop-high-preserved : goal.loop-high-preserved
loop-high-preserved c =
    let left = c.loop-high.high-iterator in
    let rest = c.next.new.self in
    let first = c.in-Some.high in
    let steps = c.in-Some.ensures.steps in
    let inv = c.loop-high.invariant in
    let members = c.args.members in
    let amount = c.args.amounts.three in
    let two = c.args.amounts.two in
    let some = first-some left rest first steps inv.rises in
    let more : (i j : ℕ) → overlap_at c.add_to_plane.new.pairs i j ≡ overlap_at c.loop-high.pairs i j + portion (max i j == first) (has_member (members_upto members first) (min i j)) two =
    λ i j.
    omega (
      arith,
      c.add_to_plane.ensures.paired i j,
      c.add_to_pairs.ensures i j,
      ap (λ l. portion (max i j == first) (has_member l (min i j)) two) c.upto.ensures,
      ap (λ l. portion (max i j == first) (has_member l (min i j)) two) (own (goal.at.loop-high-preserved c).After-with),
      own-and-before members first (max i j) (min i j) two some (c.loop-high.invariant.among first (first-in left rest first steps inv.rises)) (omega arith),
    ) in
    record {
      paired = rows-more left rest first steps inv.rises c.loop-high.pairs c.args.pairs.now c.add_to_plane.new.pairs members two inv.paired more;
      among = λ n is. inv.among n (later-in left rest first steps inv.rises n is);
      kept = c.add_to_plane.ensures.kept ∙ inv.kept;
      rises = (rest-increasing most_candidates left rest first steps inv.rises).1;
      room = λ n is. inv.room n (later-in left rest first steps inv.rises n is);
      made = λ z y x one two.
          one-more left rest first steps inv.rises z (word_at c.loop-high.triples z y x) (word_at c.add_to_plane.new.triples z y x) (word_at c.args.triples.now z y x)
          (cond (has_member members z) (cond (has_member members y) (cond (has_member members x) amount 0) 0) 0)
          (cond (has_member members y) (cond (has_member members x) amount 0) 0)
          (c.add_to_plane.ensures.added z y x one two
          ∙ ap (λ l. word_at c.loop-high.triples z y x + cond (has_member l y) (cond (z == first) (cond (has_member l x) amount 0) 0) 0) c.upto.ensures
          ∙ ap (λ n. word_at c.loop-high.triples z y x + n) (plane-part left rest first steps inv.rises members z y x amount one two))
          (inv.made z y x one two);
    }

pub returns : goal.returns
returns c = record {
  kept = c.loop-high.invariant.kept;
  paired = λ i j low.
      omega (
        arith,
        c.loop-high.invariant.paired i j low,
        ap (λ l. portion (has_member l (max i j)) (has_member c.args.members (min i j)) c.args.amounts.two) c.in-None.ensures.steps.0,
        portion-pair (has_member c.args.members) i j c.args.amounts.two,
      );
  added = λ z y x one two.
      omega (arith, c.loop-high.invariant.made z y x one two, ap (λ l. cond (has_member l z) (cond (has_member c.args.members y) (cond (has_member c.args.members x) c.args.amounts.three 0) 0) 0) c.in-None.ensures.steps.0);
}
