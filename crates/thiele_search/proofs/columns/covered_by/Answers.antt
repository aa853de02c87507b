use Rattle.std.proofs.Common.{◌≡◌, ℕ, ◌+◌, ◌==◌, ◌∙◌, cond, sym, ap, arith, get_or, refl}
use Rattle.std.specs.Int.{bit_at}
use Rattle.std.proofs.lemmas.Bool.{eq-eqb}
use Rattle.std.proofs.lemmas.Nat.Bits.{bit_at-zero}
use Rattle.ballot_base.specs.Limits.{most_candidates}
use Rattle.ballot_base.specs.Ballots.{hits}
use Rattle.ballot_base.specs.CandSet.{has_member}
use Rattle.tie_walk.proofs.Gains.{hits-none}
use Rattle.thiele_search.proofs.ColumnLemmas.{hits-first, cover-grows}
use Rattle.row_multipliers.proofs.SearchLemmas.{rest-increasing}
use Rattle.thiele_search.proofs.columns.covered_by.Goals as goal

pub bounds-block-from : goal.bounds-block-from
bounds-block-from c =
    let first = (rest-increasing most_candidates c.loop-member.member-iterator c.next.new.self c.in-Some.member c.in-Some.ensures.steps c.loop-member.invariant.rises).0 in
    omega (arith, first, c.from.ensures)

pub loop-member-init : goal.loop-member-init
loop-member-init c =
    let all = c.into_iter-member-iterator.ensures.into_iter_gives ∙ c.members-member-items.ensures.items in
    rw all record {
      rises = c.members-member-items.ensures.valid;
      counted = λ ballot_at block i low.
          let n : ℕ = hits (ballot_at i) c.args.set in
          bit_at-zero i ∙ sym (ap (λ b. cond b 0 1) (eq-eqb n n refl));
      within = λ ballot_at block i. omega arith;
    }

pub loop-member-preserved : goal.loop-member-preserved
loop-member-preserved c =
    let left = c.loop-member.member-iterator in
    let rest = c.next.new.self in
    let first = c.in-Some.member in
    let rises = c.loop-member.invariant.rises in
    record {
      rises = (rest-increasing most_candidates left rest first c.in-Some.ensures.steps rises).1;
      counted = λ ballot_at block i low.
          cover-grows (has_member (ballot_at i) first) c.loop-member.covered (get_or c.args.block.now c.from.result 0) i
          (hits (ballot_at i) c.args.set) (hits (ballot_at i) left) (hits (ballot_at i) rest)
          (hits-first (ballot_at i) left rest first (block.rises i) rises c.in-Some.ensures.steps)
          (c.loop-member.invariant.within ballot_at block i)
          (ap (λ n. bit_at (get_or c.args.block.now n 0) i) c.from.ensures ∙ block.approves first i low)
          (c.loop-member.invariant.counted ballot_at block i low);
      within = λ ballot_at block i.
          let more : hits (ballot_at i) left ≡ cond (has_member (ballot_at i) first) 1 0 + hits (ballot_at i) rest =
          hits-first (ballot_at i) left rest first (block.rises i) rises c.in-Some.ensures.steps in
          omega (arith, more, c.loop-member.invariant.within ballot_at block i);
    }

pub returns : goal.returns
returns c ballot_at block i low =
    c.loop-member.invariant.counted ballot_at block i low
    ∙ ap (λ n. cond (hits (ballot_at i) c.args.set == n) 0 1) (ap (hits (ballot_at i)) c.in-None.ensures.steps.0 ∙ hits-none (ballot_at i))
