-- The first of the members that are left, and the others.
use Rattle.std.proofs.lemmas.Grind.{common_steps}
use Rattle.std.proofs.Common.{◌≡◌, ℕ, ◌+◌, ◌≤◌, ◌∙◌, true, false, List, ◌∷◌, sym, ap, arith}
use Rattle.ballot_base.specs.Limits.{most_candidates}
use Rattle.ballot_base.specs.Lists.{IsIncreasing}
use Rattle.ballot_base.specs.CandSet.{has_member}
use Rattle.ballot_base.proofs.Increasing.{has_member_head, has_member_tail, has_member-below}

module _ (left rest : List ℕ) (first : ℕ) (is : left ≡ first ∷ rest) (up : IsIncreasing 1 most_candidates left) where
  pub first-in : has_member left first ≡ true
  first-in = ap (λ l. has_member l first) is ∙ has_member_head first rest

  pub later-in : (n : ℕ) → has_member rest n ≡ true → has_member left n ≡ true
  later-in n later = grind (arith, common_steps)

  pub first-gone : has_member rest first ≡ false
  first-gone = let at : IsIncreasing 1 most_candidates (first ∷ rest) = rw is at up in has_member-below (first + 1) most_candidates rest first at.2 (omega arith)

  pub others-same : (c : ℕ) → (c ≡ first → ⊥) → has_member left c ≡ has_member rest c
  others-same c other = ap (λ l. has_member l c) is ∙ has_member_tail first c rest (λ e. other (sym e))

  pub first-low : first ≤ most_candidates
  first-low = let at : IsIncreasing 1 most_candidates (first ∷ rest) = rw is at up in omega (arith, at.1)
