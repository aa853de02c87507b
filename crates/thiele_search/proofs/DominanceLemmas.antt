-- A candidate in the place of one whom it dominates raises the value.
use Rattle.std.proofs.Common.{◌≡◌, ℕ, zero, suc, ◌+◌, ◌-◌, ◌*◌, ◌<◌, ◌≤◌, ◌&&◌, Bool, true, false, cond, not, List, [], ◌∷◌, refl, ap, arith, length}
use Rattle.std.specs.Prelude.{slice_index, sum_by}
use Rattle.std.specs.List.{AllByRecursion}
use Rattle.std.proofs.Math.Nat.{mul-le-mul}
use Rattle.std.proofs.lemmas.Bool.{and_parts}
use Rattle.std.proofs.lemmas.List.Sums.{sum_by-cons}
use Rattle.ballot_base.specs.Ballots.{Row, IsElection, hits}
use Rattle.ballot_base.specs.CandSet.{has_member}
use Rattle.ballot_base.specs.Clones.{are_clones}
use Rattle.ballot_base.specs.Increments.{increments}
use Rattle.ballot_base.specs.Lists.{IsIncreasing}
use Rattle.ballot_base.specs.Limits.{most_members}
use Rattle.ballot_base.specs.declared.increments.ThieleRule.{ThieleRule}
use Rattle.ballot_base.proofs.CloneLemmas.{is_both}
use Rattle.ballot_base.proofs.WeightLemmas.{increments-fall}
use Rattle.tie_walk.specs.Sequences.{gain, supporters, weight}
use Rattle.tie_walk.specs.Values.{Thiele, tally_value}
use Rattle.tie_walk.proofs.TightLemmas.{hits-most}
use Rattle.tie_search.proofs.CloneLemmas.{back, exchanged, gone, less, less-out, less-up}
use Rattle.row_multipliers.proofs.CompletionLemmas.{without-shorter}
use Rattle.thiele_search.proofs.WholeLemmas.{value-with}
use Rattle.thiele_search.specs.Steps.Dominance.{EachHitAdds, is_follower}

-- no hit adds less than the last one
pub hits-add : (rule : ThieleRule) (k : ℕ) → k ≤ most_members → 1 ≤ k → 1 ≤ slice_index (increments rule k) (k - 1) → (j : ℕ) → j < k → 1 ≤ slice_index (increments rule k) j
hits-add rule k few some last j low =
    let e : j + ((k - 1) - j) ≡ k - 1 = omega (arith, some, low) in
    omega (arith, falls j ((k - 1) - j), ap (slice_index (increments rule k)) e, last)
  where
    falls : (i d : ℕ) → slice_index (increments rule k) (i + d) ≤ slice_index (increments rule k) i
    falls i zero = omega (arith, ap (slice_index (increments rule k)) (let e : i + 0 ≡ i = omega arith in e))
    falls i (suc d) =
        let e : i + suc d ≡ (i + d) + 1 = omega arith in
        omega (arith, ap (slice_index (increments rule k)) e, increments-fall rule k (i + d) few, falls i d)

-- one row: what the followed candidate and the follower gain
row-order : (p q : Bool) (x more fewer : ℕ) → cond p true (not q) ≡ true → fewer ≤ more → cond q x 0 + fewer ≤ cond p x 0 + more
row-order true true x more fewer follows le = omega (arith, le)
row-order true false x more fewer follows le = omega (arith, le)
row-order false true x more fewer follows le = absurd cc
row-order false false x more fewer follows le = omega (arith, le)

row-less : (p q : Bool) (x more fewer : ℕ) → cond p true (not q) ≡ true → 1 ≤ x → fewer ≤ more → (is_both p q ≡ true → fewer < more) → cond q x 0 + fewer < cond p x 0 + more
row-less true true x more fewer follows some le less' = omega (arith, less' refl)
row-less true false x more fewer follows some le less' = omega (arith, some, le)
row-less false true x more fewer follows some le less' = absurd cc
row-less false false x more fewer follows some le less' = omega (arith, less' refl)

and-later : (p q : Bool) → (p && q) ≡ false → p ≡ true → q ≡ false
and-later true q h e = h
and-later false q h e = absurd cc

module _ (weights set : List ℕ) (c d : ℕ) where
  abbrev worth : Row → ℕ
  worth row = row.1 * weight weights (hits row.0 set + 1)

  gain-row : (n : ℕ) (row : Row) (rows : List Row) → gain weights (row ∷ rows) set n ≡ cond (has_member row.0 n) (worth row) 0 + gain weights rows set n
  gain-row n row rows = by (has_member row.0 n)
    where
      by : (b : Bool) → sum_by worth (cond b (row ∷ supporters rows n) (supporters rows n)) ≡ cond b (worth row) 0 + sum_by worth (supporters rows n)
      by true = sum_by-cons worth row (supporters rows n)
      by false = omega arith

  gain-order : (rows : List Row) → is_follower rows c d ≡ true → gain weights rows set d ≤ gain weights rows set c
  gain-order [] follows = omega arith
  gain-order (row ∷ rows) follows =
      let parts = and_parts (cond (has_member row.0 c) true (not (has_member row.0 d))) (is_follower rows c d) follows in
      omega (
        arith,
        gain-row c row rows,
        gain-row d row rows,
        row-order (has_member row.0 c) (has_member row.0 d) (worth row) (gain weights rows set c) (gain weights rows set d) parts.0 (gain-order rows parts.1),
      )

  gain-less : (rows : List Row) → AllByRecursion (λ (row : Row). 1 ≤ worth row) rows → is_follower rows c d ≡ true → are_clones rows c d ≡ false
      → gain weights rows set d < gain weights rows set c
  gain-less [] some follows other = absurd cc
  gain-less (row ∷ rows) some follows other =
      let parts = and_parts (cond (has_member row.0 c) true (not (has_member row.0 d))) (is_follower rows c d) follows in
      omega (
        arith,
        gain-row c row rows,
        gain-row d row rows,
        row-less (has_member row.0 c) (has_member row.0 d) (worth row) (gain weights rows set c) (gain weights rows set d) parts.0 some.0 (gain-order rows parts.1)
            (λ both. gain-less rows some.1 parts.1 (and-later (is_both (has_member row.0 c) (has_member row.0 d)) (are_clones rows c d) other both)),
      )

  -- each supporter gains something
  worth-some : (m : ℕ) (rows : List Row) → IsIncreasing 1 m set → ((j : ℕ) → j ≤ length set → 1 ≤ slice_index weights j)
      → AllByRecursion (λ (row : Row). IsIncreasing 1 m row.0) rows → AllByRecursion (λ (row : Row). 0 < row.1) rows → AllByRecursion (λ (row : Row). 1 ≤ worth row) rows
  worth-some m [] up adds ballots counts = tt
  worth-some m (row ∷ rows) up adds ballots counts =
      let one : 1 ≤ weight weights (hits row.0 set + 1) =
      omega (arith, adds (hits row.0 set) (hits-most 1 m 1 m row.0 set ballots.0 up), ap (weight weights) (let e : hits row.0 set + 1 ≡ suc (hits row.0 set) = omega arith in e)) in
      let count : 1 ≤ row.1 = omega (arith, counts.0) in
      let product : 1 * 1 ≤ worth row = mul-le-mul count one in
      (omega (arith, product), worth-some m rows up adds ballots.1 counts.1)

-- a committee with c in the place of d is worth more where c dominates d
pub value-rises : (tally : Thiele) → IsElection tally.election → EachHitAdds tally → (committee : List ℕ) (c d : ℕ) → IsIncreasing 1 tally.election.m committee
    → length committee ≤ tally.k → has_member committee d ≡ true → has_member committee c ≡ false → is_follower tally.election.rows c d ≡ true → are_clones tally.election.rows c d ≡ false
    → tally_value tally committee < tally_value tally (exchanged committee c d)
value-rises tally valid adds committee c d up size here out follows other =
    let m = tally.election.m in
    let rest = less m committee c d up here out in
    omega (
      arith,
      value-with tally rest c valid (less-out m committee c d up here out),
      value-with tally rest d valid (gone committee d),
      gain-less (increments tally.rule tally.k) rest c d tally.election.rows
          (worth-some (increments tally.rule tally.k) rest c d m tally.election.rows (less-up m committee c d up here out) (λ j low. adds j (omega (arith, low, size, without-shorter committee d here))) valid.ballots valid.counts)
          follows other,
      ap (tally_value tally) (back m committee d up here),
    )
