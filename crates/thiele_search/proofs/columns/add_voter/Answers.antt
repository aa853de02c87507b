use Rattle.std.proofs.Common.{◌≡◌, ℕ, ◌*◌, ◌%◌, ◌^◌, ◌==◌, ◌<◌, ◌&&◌, ◌||◌, ◌∙◌, Bool, true, false, cond, List, ◌∷◌, refl, sym, ap, arith, inl, inr, length, get_or, set, bit_or, w64}
use Rattle.std.specs.Int.{bit_at}
use Rattle.std.proofs.Math.ListN.{length-set}
use Rattle.std.proofs.lemmas.Bool.{cases_eq, eq-eqb, ne_eqb}
use Rattle.std.proofs.lemmas.List.{get_or-set_same, get_or-set_other}
use Rattle.std.proofs.lemmas.Nat.Bits.{bit_at_set_same, bit_at_set_other}
use Rattle.ballot_base.specs.Limits.{most_candidates}
use Rattle.ballot_base.specs.CandSet.{has_member}
use Rattle.row_multipliers.proofs.SearchLemmas.{rest-increasing}
use Rattle.thiele_search.proofs.columns.add_voter.Goals as goal

-- a candidate's bit is set
one-set : (block left rest : List ℕ) (first place wanted c i : ℕ) → left ≡ first ∷ rest → first < length block → place < 64 → i < 64
    → cond ((i == place) && has_member left c) 1 (bit_at (get_or block c 0) i) ≡ wanted
    → cond ((i == place) && has_member rest c) 1 (bit_at (get_or (set block first (bit_or (get_or block first 0) (1 * 2 ^ place % 2 ^ 64))) c 0) i) ≡ wanted
one-set block left rest first place wanted c i is inside low within before =
    elim (cases_eq c first) [
      | inl here ↦ elim (cases_eq i place) [
        | inl at ↦
            ap (λ b. cond (b && has_member rest c) 1 (bit_at (get_or (set block first new) c 0) i)) (eq-eqb i place at)
            ∙ ap (λ j. cond (has_member rest c) 1 (bit_at (get_or (set block first new) j 0) i)) here
            ∙ ap (λ n. cond (has_member rest c) 1 (bit_at n i)) (get_or-set_same block first new 0 inside)
            ∙ ap (λ j. cond (has_member rest c) 1 (bit_at new j)) at
            ∙ ap (λ n. cond (has_member rest c) 1 n) (bit_at_set_same w64 (get_or block first 0) place low)
            ∙ always (has_member rest c)
            ∙ sym (ap (λ b. cond b 1 (bit_at (get_or block c 0) i)) (ap (λ b. b && has_member left c) (eq-eqb i place at) ∙ ap (λ l. has_member l c) is ∙ ap (λ b. b || has_member rest c) (eq-eqb first c (sym here))))
            ∙ before
        | inr other ↦
            ap (λ b. cond (b && has_member rest c) 1 (bit_at (get_or (set block first new) c 0) i)) (ne_eqb i place other)
            ∙ ap (λ j. bit_at (get_or (set block first new) j 0) i) here
            ∙ ap (λ n. bit_at n i) (get_or-set_same block first new 0 inside)
            ∙ bit_at_set_other w64 (get_or block first 0) place low i other
            ∙ ap (λ j. bit_at (get_or block j 0) i) (sym here)
            ∙ sym (ap (λ b. cond (b && has_member left c) 1 (bit_at (get_or block c 0) i)) (ne_eqb i place other))
            ∙ before
      ]
      | inr other ↦
          ap (λ n. cond ((i == place) && has_member rest c) 1 (bit_at n i)) (get_or-set_other block first c new 0 other)
          ∙ ap (λ b. cond ((i == place) && b) 1 (bit_at (get_or block c 0) i)) (sym (ap (λ l. has_member l c) is ∙ ap (λ b. b || has_member rest c) (ne_eqb first c (λ e. other (sym e)))))
          ∙ before
    ]
  where
    new : ℕ
    new = bit_or (get_or block first 0) (1 * 2 ^ place % 2 ^ 64)

    always : (b : Bool) → cond {A = ℕ} b 1 1 ≡ 1
    always true = refl
    always false = refl

pub bounds-block-from : goal.bounds-block-from
bounds-block-from c =
    let first = (rest-increasing most_candidates c.loop-candidate.candidate-iterator c.next.new.self c.in-Some.candidate c.in-Some.ensures.steps c.loop-candidate.invariant.rises).0 in
    omega (arith, first, c.from.ensures)

pub bounds-block-from-in-loop-candidate : goal.bounds-block-from-in-loop-candidate
bounds-block-from-in-loop-candidate c =
    let first = (rest-increasing most_candidates c.loop-candidate.candidate-iterator c.next.new.self c.in-Some.candidate c.in-Some.ensures.steps c.loop-candidate.invariant.rises).0 in
    omega (arith, first, c.from.ensures)

pub loop-candidate-preserved : goal.loop-candidate-preserved
loop-candidate-preserved c =
    let rest = rest-increasing most_candidates c.loop-candidate.candidate-iterator c.next.new.self c.in-Some.candidate c.in-Some.ensures.steps c.loop-candidate.invariant.rises in
    let is : c.loop-candidate.candidate-iterator ≡ c.from.result ∷ c.next.new.self = c.in-Some.ensures.steps ∙ ap (λ n. n ∷ c.next.new.self) (sym c.from.ensures) in
    let word = bit_or (get_or c.loop-candidate.block c.from.result 0) (1 * 2 ^ c.args.place % 2 ^ 64) in
    record {
      long = length-set c.loop-candidate.block c.from.result word ∙ c.loop-candidate.invariant.long;
      rises = rest.1;
      made = λ n i within.
          one-set c.loop-candidate.block c.loop-candidate.candidate-iterator c.next.new.self c.from.result c.args.place _ n i is
          (omega (arith, rest.0, c.from.ensures, c.loop-candidate.invariant.long)) c.requires within (c.loop-candidate.invariant.made n i within);
    }

pub returns : goal.returns
returns c n i within =
    none (i == c.args.place) (bit_at (get_or c.loop-candidate.block n 0) i)
    ∙ ap (λ l. cond ((i == c.args.place) && has_member l n) 1 (bit_at (get_or c.loop-candidate.block n 0) i)) (sym c.in-None.ensures.steps.0)
    ∙ c.loop-candidate.invariant.made n i within
  where
    none : (b : Bool) (x : ℕ) → x ≡ cond (b && false) 1 x
    none true x = refl
    none false x = refl
