-- Exchanges of clones: how many members of a class a committee has, and which branches it completes.
use Rattle.std.proofs.lemmas.Grind.{common_steps}
use Rattle.std.proofs.Common.{◌≡◌, ℕ, ◌+◌, ◌≤◌, ◌==◌, ◌&&◌, ◌∙◌, true, List, [], ◌∷◌, ◌++◌, refl, sym, ap, arith}
use Rattle.std.specs.List.{AllByRecursion, range_with_len}
use Rattle.std.proofs.lemmas.Bool.{and_parts}
use Rattle.std.proofs.lemmas.List.Folds.{list_any-append}
use Rattle.ballot_base.specs.Lists.{IsIncreasing}
use Rattle.ballot_base.specs.CandSet.{either_members, has_member, includes, with_member, without_member}
use Rattle.ballot_base.specs.Ballots.{Row, hits}
use Rattle.ballot_base.specs.Clones.{are_clones, clones_among}
use Rattle.ballot_base.proofs.CloneLemmas.{clones-same, clones_among-are}
use Rattle.ballot_base.proofs.Committees.{IsIncreasing-range}
use Rattle.ballot_base.proofs.Included.{all-at}
use Rattle.ballot_base.proofs.Increasing.{IsIncreasing-filter, has_member-either, has_member-filter}
use Rattle.tie_walk.proofs.StepLemmas.{has_member-range}
use Rattle.tie_search.specs.Alike.{AreClasses, Becomes, done, step}
use Rattle.tie_search.specs.Steps.Branches.{IsBranch, completes}
use Rattle.row_multipliers.specs.declared.node.Node.{Node}
use Rattle.tie_search.proofs.BranchLemmas.{branch-node}
use Rattle.tie_search.proofs.CloneLemmas.{hits-exchanged}
use Rattle.row_multipliers.proofs.HitLemmas.{hits-append, hits-more}

-- they leave the number of members of each class as it is
pub becomes-hits : (m : ℕ) (class : ℕ → List ℕ) (goal committee : List ℕ) (e : ℕ) → AreClasses m class → 1 ≤ e → e ≤ m → IsIncreasing 1 m (class e) → Becomes m class goal committee
    → hits (class e) committee ≡ hits (class e) goal
becomes-hits m class goal committee e are first last rises done = refl
becomes-hits m class goal committee e are first last rises (step _ c d up low high alike here out rest) =
    sym (hits-exchanged m (class e) committee c d rises up low high here out (are e c d first last low high alike))
    ∙ becomes-hits m class goal (with_member (without_member committee d) c) e are first last rises rest

-- ---- the classes of clones

pub clones-rise : (m : ℕ) (rows : List Row) (c : ℕ) → IsIncreasing 1 m (clones_among m rows c)
clones-rise m rows c = IsIncreasing-filter (are_clones rows c) 1 m (range_with_len 1 m) (IsIncreasing-range 1 m m (omega arith))

-- two clones are clones of the same candidates
clones-alike : (rows : List Row) (e c d : ℕ) → AllByRecursion (λ (row : Row). has_member row.0 c ≡ has_member row.0 d) rows → are_clones rows e c ≡ are_clones rows e d
clones-alike [] e c d same = refl
clones-alike (row ∷ rows) e c d same = grind (arith, common_steps, same.0, clones-alike rows e c d same.1)

pub clones-classes : (m : ℕ) (rows : List Row) → AreClasses m (clones_among m rows)
clones-classes m rows e c d first last low high is =
    let among : has_member (range_with_len 1 m) d ≡ true =
    (and_parts (are_clones rows c d) (has_member (range_with_len 1 m) d) (sym (has_member-filter (are_clones rows c) (range_with_len 1 m) d) ∙ is)).1 in
    has_member-filter (are_clones rows e) (range_with_len 1 m) c
    ∙ ap (λ b. are_clones rows e c && b) (has_member-range 1 m c low (omega (arith, high)) ∙ sym among)
    ∙ ap (λ b. b && has_member (range_with_len 1 m) d) (clones-alike rows e c d (clones-same rows c d (clones_among-are m rows c d is)))
    ∙ sym (has_member-filter (are_clones rows e) (range_with_len 1 m) d)

-- ---- branches

module _ (m k : ℕ) (branch : Node) (is : IsBranch m k branch) (other : List ℕ) (whole : completes branch other ≡ true) (class_ : List ℕ) where
  parts : (includes other branch.set ≡ true) × (includes (either_members branch.set branch.free) other ≡ true)
  parts = and_parts (includes other branch.set) (includes (either_members branch.set branch.free) other) whole

  -- a committee that completes it has those of the class that are in the set
  pub completes-least : hits class_ branch.set ≤ hits class_ other
  completes-least = hits-more class_ branch.set other (λ n here. all-at (has_member other) branch.set n parts.0 here)

  -- and no others of the class but free candidates
  pub completes-most : hits class_ other ≤ hits class_ branch.set + hits class_ branch.free
  completes-most =
      omega (
        arith,
        hits-append class_ branch.set branch.free (branch-node m k branch is).apart,
        hits-more class_ other (branch.set ++ branch.free)
            (λ n here. list_any-append (λ y. y == n) branch.set branch.free ∙ sym (has_member-either branch.set branch.free n)
            ∙ all-at (has_member (either_members branch.set branch.free)) other n parts.1 here),
      )
