-- What hits add under the sequential rules, as a table has it.
use Rattle.std.proofs.lemmas.Grind.{common_steps}
use Rattle.std.proofs.Common.{◌≡◌, ℕ, ◌+◌, ◌<◌, ◌≤◌, ◌^◌, ◌==◌, ◌∙◌, Bool, true, false, cond, List, sym, arith, length, take, get_or}
use Rattle.std.proofs.Math.Nat.{div-le_self}
use Rattle.std.proofs.lemmas.Bool.{cases_lt}
use Rattle.std.proofs.lemmas.List.{ext_get_or, get_or_past, get_or-take, length-take-le}
use Rattle.std.proofs.lemmas.List.FromFn.{get_or-map-range_with_len, length-map-range_with_len}
use Rattle.ballot_base.specs.Limits.{most_candidates}
use Rattle.ballot_base.specs.CommonMultiple.{common_multiple}
use Rattle.ballot_base.proofs.LeastMultiples.{common_multiple_small}
use Rattle.tie_walk.specs.Sequences.{hit_weight, hit_weights}
use Rattle.tie_walk.specs.declared.sequential.SeqRule.{SeqRule}
use Rattle.tie_walk.specs.declared.sequential.SeqRule.TheVariants.{SeqPav, SeqCc, RevSeqPav}

pub hit_weights-length : (rule : SeqRule) (m : ℕ) → length (hit_weights rule m) ≡ m
unfolding hit_weights
hit_weights-length rule m = length-map-range_with_len (hit_weight rule m) 1 m

pub hit_weights-at : (rule : SeqRule) (m i : ℕ) → i < m → get_or (hit_weights rule m) i 0 ≡ hit_weight rule m (i + 1)
unfolding hit_weights
hit_weights-at rule m i h = get_or-map-range_with_len (hit_weight rule m) 1 m i (i + 1) 0 h (omega arith)

pub hit_weights-made : (rule : SeqRule) (m : ℕ) (table : List ℕ) → m ≤ length table → ((i : ℕ) → i < m → get_or table i 0 ≡ hit_weight rule m (i + 1)) → take m table ≡ hit_weights rule m
hit_weights-made rule m table long made =
    let size : length (take m table) ≡ m = length-take-le m table long in
    ext_get_or 0 (take m table) (hit_weights rule m) (size ∙ sym (hit_weights-length rule m))
    (λ i h. let low : i < m = omega (arith, size) in get_or-take m table i 0 low ∙ made i low ∙ sym (hit_weights-at rule m i low))

pub one-most : (b : Bool) → cond b 1 0 ≤ 1
one-most true = omega arith
one-most false = omega arith

hit_weight-small : (rule : SeqRule) (m j : ℕ) → m ≤ most_candidates → 1 ≤ j → hit_weight rule m j < 2 ^ 90
hit_weight-small SeqPav m j most low = omega (arith, div-le_self (common_multiple m) j, common_multiple_small m most)
hit_weight-small SeqCc m j most low = omega (arith, one-most (j == 1))
hit_weight-small RevSeqPav m j most low = omega (arith, div-le_self (common_multiple m) j, common_multiple_small m most)

pub hit_weights-small : (rule : SeqRule) (m i : ℕ) → m ≤ most_candidates → get_or (hit_weights rule m) i 0 < 2 ^ 90
hit_weights-small rule m i most =
    grind (arith, common_steps, cases_lt, hit_weights-at, hit_weight-small, get_or_past, hit_weights-length)
