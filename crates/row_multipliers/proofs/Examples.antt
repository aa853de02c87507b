-- The definitions of a node, worked out by hand. The value of a set is the sum of its numbers.
use Rattle.std.proofs.Common.{[], ◌∷◌, refl, sum, lit≤, lit<, arith}
use Rattle.row_multipliers.specs.Completions.{IsNode, IsCompletion, IsReaching, IsOutOfReach}

two_are_free : IsNode 3 (1 ∷ []) (2 ∷ 3 ∷ [])
two_are_free = record {
  set_within = (lit≤ tt, lit≤ tt, tt);
  free_within = (lit≤ tt, lit≤ tt, (lit≤ tt, lit≤ tt, tt));
  apart = λ n is. grind (arith, is);
}

three_completes : IsCompletion 3 (1 ∷ []) (2 ∷ 3 ∷ []) 1 (1 ∷ 3 ∷ [])
three_completes = record {
  candidates = (lit≤ tt, lit≤ tt, (lit≤ tt, lit≤ tt, tt));
  whole = λ n is. grind (arith, is);
  within = λ n is. grind (arith, is);
  size = refl;
}

four_is_reached : IsReaching sum 3 (1 ∷ []) (2 ∷ 3 ∷ []) 1 4 (1 ∷ 3 ∷ [])
four_is_reached = record { completes = three_completes; reaches = lit≤ tt }

-- where nobody is added, nobody gives a value
nothing_is_reached : IsOutOfReach sum 3 [] (1 ∷ []) 0 1
nothing_is_reached [] whole = lit< tt
nothing_is_reached (x ∷ committee) whole = absurd (omega (arith, whole.size))
