use Rattle.std.proofs.Common.{◌≡◌, ℕ, zero, suc, ◌+◌, ◌-◌, ◌==◌, ◌<◌, ◌≤◌, ◌^◌, ◌∙◌, cond, List, ◌∷◌, refl, sym, ap, arith, get_or, replicate}
use Rattle.std.specs.Int.{bit_at}
use Rattle.std.proofs.lemmas.Bool.{eq-eqb, ne_eqb}
use Rattle.std.proofs.lemmas.Nat.Bits.{bit_at-zero, bit_at_ones}
use Rattle.ballot_base.specs.Limits.{most_candidates}
use Rattle.ballot_base.specs.Ballots.{hits}
use Rattle.ballot_base.specs.CandSet.{has_member}
use Rattle.tie_walk.proofs.Gains.{hits-none}
use Rattle.tie_walk.proofs.WorthLemmas.{no_total}
use Rattle.thiele_search.proofs.ColumnLemmas.{hits-first, hit-moves}
use Rattle.row_multipliers.proofs.SearchLemmas.{rest-increasing}
use Rattle.thiele_search.proofs.columns.by_hits.Goals as goal

others : (j : ℕ) → 1 ≤ j → get_or ((2 ^ 64 - 1) ∷ replicate 64 0) j 0 ≡ 0
others zero low = absurd (omega (arith, low))
others (suc j) low = no_total 64 j

begins : (words : List ℕ) (h i all : ℕ) → i < 64 → get_or words 0 0 ≡ 2 ^ 64 - 1 → ((j : ℕ) → 1 ≤ j → get_or words j 0 ≡ 0)
    → bit_at (get_or words h 0) i ≡ cond (all == h + all) 1 0
begins words zero i all low first others =
    ap (λ n. bit_at n i) first ∙ bit_at_ones 64 i low ∙ sym (ap (λ b. cond b 1 0) (eq-eqb all (0 + all) (omega arith)))
begins words (suc h) i all low first others =
    ap (λ n. bit_at n i) (others (suc h) (omega arith)) ∙ bit_at-zero i ∙ sym (ap (λ b. cond b 1 0) (ne_eqb all (suc h + all) (λ e. absurd (omega (arith, e)))))

pub bounds-block-from : goal.bounds-block-from
bounds-block-from c =
    let first = (rest-increasing most_candidates c.loop-member.member-iterator c.next.new.self c.in-Some.member c.in-Some.ensures.steps c.loop-member.invariant.rises).0 in
    omega (arith, first, c.from.ensures)

pub loop-member-init : goal.loop-member-init
loop-member-init c =
    let all = c.into_iter-member-iterator.ensures.into_iter_gives ∙ c.members-member-items.ensures.items in
    rw all record {
      rises = c.members-member-items.ensures.valid;
      counted = λ ballot_at block h i low within. begins ((2 ^ 64 - 1) ∷ replicate 64 0) h i (hits (ballot_at i) c.args.set) within refl others;
      within = λ ballot_at block i. omega arith;
    }

pub loop-member-preserved : goal.loop-member-preserved
loop-member-preserved c =
    let left = c.loop-member.member-iterator in
    let rest = c.next.new.self in
    let first = c.in-Some.member in
    let rises = c.loop-member.invariant.rises in
    record {
      rises = (rest-increasing most_candidates left rest first c.in-Some.ensures.steps rises).1;
      counted = λ ballot_at block h i low within.
          c.add_hit.ensures h i low within
          ∙ hit-moves (has_member (ballot_at i) first) c.loop-member.words h i (hits (ballot_at i) c.args.set) (hits (ballot_at i) left) (hits (ballot_at i) rest)
          (get_or c.args.block.now c.from.result 0)
          (hits-first (ballot_at i) left rest first (block.rises i) rises c.in-Some.ensures.steps)
          (c.loop-member.invariant.within ballot_at block i)
          (ap (λ n. bit_at (get_or c.args.block.now n 0) i) c.from.ensures ∙ block.approves first i within)
          (λ j most. c.loop-member.invariant.counted ballot_at block j i (omega (arith, most, low)) within);
      within = λ ballot_at block i.
          let more : hits (ballot_at i) left ≡ cond (has_member (ballot_at i) first) 1 0 + hits (ballot_at i) rest =
          hits-first (ballot_at i) left rest first (block.rises i) rises c.in-Some.ensures.steps in
          omega (arith, more, c.loop-member.invariant.within ballot_at block i);
    }

pub returns : goal.returns
returns c ballot_at block h i low within =
    c.loop-member.invariant.counted ballot_at block h i low within
    ∙ ap (λ n. cond (hits (ballot_at i) c.args.set == n) 1 0) (let none : hits (ballot_at i) c.loop-member.member-iterator ≡ 0 = ap (hits (ballot_at i)) c.in-None.ensures.steps.0 ∙ hits-none (ballot_at i) in omega (arith, none))
