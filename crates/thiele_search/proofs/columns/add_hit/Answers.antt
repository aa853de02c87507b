use Rattle.std.proofs.Common.{◌≡◌, ℕ, zero, suc, ◌-◌, ◌==◌, ◌<◌, ◌^◌, ◌∙◌, cond, refl, sym, ap, arith, inl, inr, length, get_or, set, bit_and, bit_or, min, max, w64, add-one}
use Rattle.std.specs.Int.{bit_at, bit_not}
use Rattle.std.proofs.Math.ListN.{length-set}
use Rattle.std.proofs.lemmas.Bool.{cases_eq}
use Rattle.std.proofs.lemmas.List.{get_or-set_same, get_or-set_other}
use Rattle.std.proofs.lemmas.Nat.Bits.{bit_at-lt, bit_at_and, bit_at_or, bit_at_not}
use Rattle.thiele_search.specs.Steps.Columns.{word_before}
use Rattle.thiele_search.proofs.columns.add_hit.Goals as goal

-- one bit of the word that is written
chosen : (approving before here i : ℕ) → approving < 2 ^ 64 → i < 64
    → bit_at (bit_or (bit_and here (2 ^ 64 - 1 - approving)) (bit_and before approving)) i ≡ cond (bit_at approving i == 1) (bit_at before i) (bit_at here i)
chosen approving before here i small low =
    bit_at_or (bit_and here (bit_not w64 approving)) (bit_and before approving) i
    ∙ ap (λ n. max n (bit_at (bit_and before approving) i)) (bit_at_and here (bit_not w64 approving) i)
    ∙ ap (λ n. max (min (bit_at here i) (bit_at (bit_not w64 approving) i)) n) (bit_at_and before approving i)
    ∙ ap (λ n. max (min (bit_at here i) n) (min (bit_at before i) (bit_at approving i))) (bit_at_not w64 approving i small low)
    ∙ by (bit_at approving i) (bit_at before i) (bit_at here i) (bit_at-lt approving i) (bit_at-lt before i) (bit_at-lt here i)
  where
    by : (a b h : ℕ) → a < 2 → b < 2 → h < 2 → max (min h (1 - a)) (min b a) ≡ cond (a == 1) b h
    by zero b h la lb lh = omega (arith, lb, lh)
    by (suc zero) b h la lb lh = omega (arith, lb, lh)
    by (suc (suc a)) b h la lb lh = absurd (omega (arith, la))

pub loop-h-init : goal.loop-h-init
loop-h-init c = record {
  long = c.told-words;
  moved = λ h i low within. absurd (omega (arith, low));
  same = λ h low. refl;
  last = refl;
}

pub loop-h-preserved : goal.loop-h-preserved
loop-h-preserved c =
    let words = c.loop-h.words in
    let at = c.loop-h.h in
    let inside : at < length words = omega (arith, c.loop-h.invariant.long, c.loop-h-test.true, c.requires) in
    let word = bit_or (bit_and (get_or words at 0) (2 ^ 64 - 1 - c.args.approving)) (bit_and c.loop-h.before c.args.approving) in
    record {
      long = length-set words at word ∙ c.loop-h.invariant.long;
      moved = λ h i low within. elim (cases_eq h at) [
        | inl here ↦
            ap (λ j. bit_at (get_or (set words at word) j 0) i) here
            ∙ ap (λ n. bit_at n i) (get_or-set_same words at word 0 inside)
            ∙ chosen c.args.approving c.loop-h.before (get_or words at 0) i (omega arith) within
            ∙ ap (λ n. cond (bit_at c.args.approving i == 1) (bit_at n i) (bit_at (get_or words at 0) i)) c.loop-h.invariant.last
            ∙ ap (λ n. cond (bit_at c.args.approving i == 1) (bit_at (word_before c.args.words.now at) i) (bit_at n i)) (c.loop-h.invariant.same at (omega arith))
            ∙ ap (λ j. cond (bit_at c.args.approving i == 1) (bit_at (word_before c.args.words.now j) i) (bit_at (get_or c.args.words.now j 0) i)) (sym here)
        | inr other ↦
            ap (λ n. bit_at n i) (get_or-set_other words at h word 0 other)
            ∙ c.loop-h.invariant.moved h i (omega (arith, low, other)) within
      ];
      same = λ h high. get_or-set_other words at h word 0 (λ e. absurd (omega (arith, e, high))) ∙ c.loop-h.invariant.same h (omega (arith, high));
      last = c.loop-h.invariant.same at (omega arith) ∙ ap (word_before c.args.words.now) (sym (add-one at));
    }

pub returns : goal.returns
returns c h i low within = c.loop-h.invariant.moved h i (omega (arith, low, c.loop-h-test.false, c.loop-h.auto.h-end)) within
