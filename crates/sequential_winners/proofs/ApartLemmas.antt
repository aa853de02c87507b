-- Tied candidates, no two of whom share a voter whose next hit adds something, and candidates who tie for long, by a
-- table of those who are near one another.
use Rattle.std.proofs.Common.{◌≡◌, ℕ, ◌+◌, ◌-◌, ◌*◌, ◌<◌, ◌≤◌, ◌==◌, ◌||◌, ◌&&◌, ◌∙◌, true, false, List, [], ◌∷◌, refl, filter, length, ap, subst, arith, inl, inr}
use Rattle.std.proofs.lemmas.Bool.{cases_Bool, and_from, both_ways, or_right}
use Rattle.std.proofs.Math.Bool.{and_comm}
use Rattle.std.specs.Prelude.{nat_lt}
use Rattle.std.specs.List.{list_any}
use Rattle.ballot_base.specs.Ballots.{Row}
use Rattle.ballot_base.specs.Limits.{most_candidates}
use Rattle.ballot_base.specs.Lists.{IsIncreasing}
use Rattle.ballot_base.specs.CandSet.{has_member, with_member}
use Rattle.ballot_base.proofs.Increasing.{has_member_head, has_member-filter}
use Rattle.tie_walk.specs.declared.sequential.Step.{Step}
use Rattle.sequential_winners.specs.Steps.Levels.{ties, next_hit, share_voter, is_near, AreApart, HasEnoughTied}
use Rattle.sequential_winners.specs.Steps.Near.{near_of, AreFar, AreMany}
use Rattle.sequential_winners.proofs.GivenLemmas.{or-parts}
use Rattle.sequential_winners.proofs.Lists.{open-is}
use Rattle.sequential_winners.proofs.PhaseLemmas.{member-with}
use Rattle.sequential_winners.proofs.SpanLemmas.{tied-open}

pub far-joined : (P : ℕ → Type 0) (set : List ℕ) (n t : ℕ) → has_member (with_member set n) t ≡ true → P n → (has_member set t ≡ true → P t) → P t
far-joined P set n t inside here old = elim (member-with set n t inside) [ inl same ↦ subst P same here | inr is ↦ old is ]

narrowed : (first last high : ℕ) (xs : List ℕ) → IsIncreasing first high xs → ((n : ℕ) → has_member xs n ≡ true → n ≤ last) → IsIncreasing first last xs
narrowed first last high [] up within = tt
narrowed first last high (x ∷ xs) up within = (up.0, within x (has_member_head x xs), narrowed (x + 1) last high xs up.2 (λ n inside. within n (or_right (x == n) (has_member xs n) inside)))

module _ (step : Step) (weights : List ℕ) (rows : List Row) (set : List ℕ) where
  turned : (c d : ℕ) (rows' : List Row) → share_voter step weights rows' set c d ≡ false → share_voter step weights rows' set d c ≡ false
  turned c d [] none = refl
  turned c d (row ∷ rows') none =
      let test = λ (x y : ℕ) (r : Row). nat_lt 0 (next_hit step weights set r) && (has_member r.0 x && has_member r.0 y) in
      let parts = or-parts (test c d row) (list_any (test c d) rows') none in
      ap (λ b. nat_lt 0 (next_hit step weights set row) && b || list_any (test d c) rows') (and_comm (has_member row.0 d) (has_member row.0 c))
      ∙ ap (λ b. b || list_any (test d c) rows') parts.0 ∙ turned c d rows' parts.1

  not-near : (tied : List ℕ) (c d : ℕ) (near : List ℕ) → near ≡ filter (is_near step weights rows set c) tied → has_member tied d ≡ true → has_member near d ≡ false → share_voter step weights rows set c d ≡ false
  not-near tied c d near is tie out = elim (cases_Bool (is_near step weights rows set c d)) [
    | inl close ↦
        absurd (both_ways (has_member near d) out
        (ap (λ l. has_member l d) is ∙ has_member-filter (is_near step weights rows set c) tied d ∙ and_from (is_near step weights rows set c d) (has_member tied d) close tie))
    | inr far ↦ (or-parts (d == c) (share_voter step weights rows set c d) far).1
  ]

  module _ (m : ℕ) (fits : m ≤ most_candidates) (tied : List ℕ) (table : List (List ℕ)) (tied-are : tied ≡ ties step weights m rows set) (near : (c : ℕ) → has_member tied c ≡ true → near_of table c ≡ filter (is_near step weights rows set c) tied) where
    -- candidates who are not near one another by the table share no such voter
    pub apart-of : (together : List ℕ) → IsIncreasing 1 most_candidates together → ((n : ℕ) → has_member together n ≡ true → has_member tied n ≡ true) → AreFar table together → AreApart step weights m rows set together
    apart-of together up within far = record {
      increasing = narrowed 1 m most_candidates together up (λ n inside. (open-is step m set n (tied-open step weights m rows set n (tie n inside))).0.1);
      tied = tie;
      apart = λ c d inside inside' other. elim (far c d inside inside' other) [
        | inl out ↦ not-near tied c d (near_of table c) (near c (within c inside)) (within d inside') out
        | inr out ↦ turned d c rows (not-near tied d c (near_of table d) (near d (within d inside')) (within c inside) out)
      ];
    }
      where
        tie : (n : ℕ) → has_member together n ≡ true → has_member (ties step weights m rows set) n ≡ true
        tie n inside = subst (λ l. has_member l n ≡ true) tied-are (within n inside)

    -- and so many candidates are there that enough tie
    pub many-of : (left others : ℕ) → others ≡ left - 1 → (0 < length tied) × AreMany table tied others → HasEnoughTied step weights m rows left set
    many-of left others less many =
        subst (λ (t : List ℕ). (0 < length t) × ((c : ℕ) → has_member t c ≡ true → (left - 1) * length (filter (is_near step weights rows set c) t) < length t)) tied-are (
          many.0,
          λ c tie.
              let same : others * length (near_of table c) ≡ (left - 1) * length (filter (is_near step weights rows set c) tied) = ap (λ o. o * length (near_of table c)) less ∙ ap (λ l. (left - 1) * length l) (near c tie) in
              omega (arith, same, many.1 c tie),
        )
