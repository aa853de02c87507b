-- The table of clones, and what it counts.
use Rattle.std.proofs.lemmas.Grind.{common_steps}
use Rattle.std.proofs.Common.{◌≡◌, ℕ, suc, ◌+◌, ◌-◌, ◌<◌, ◌≤◌, ◌∙◌, cond, List, [], ◌∷◌, refl, sym, ap, arith, length, get_or, count_by}
use Rattle.std.specs.Prelude.{fold}
use Rattle.std.specs.List.{range_with_len}
use Rattle.std.proofs.lemmas.Bool.{lt-ltb, le-ltb}
use Rattle.std.proofs.lemmas.List.Sums.{length-filter, fold-append}
use Rattle.std.proofs.Math.Bool.{and-true}
use Rattle.ballot_base.specs.Lists.{IsIncreasing}
use Rattle.ballot_base.specs.CandSet.{has_member, common_members, with_member}
use Rattle.ballot_base.specs.Ballots.{Row}
use Rattle.ballot_base.proofs.Increasing.{has_member-filter}
use Rattle.tie_walk.proofs.StepLemmas.{has_member-range, range-more}
use Rattle.ballot_base.specs.Clones.{are_clones, clones_among}
use Rattle.sequential_winners.specs.Clones.{clone_count}
use Rattle.ballot_base.specs.Clones.{AreClones}
use Rattle.sequential_winners.specs.Steps.Tables.{completed_by}
use Rattle.sequential_winners.proofs.Numbers.{bit, count-cons}

-- the members of a class
pub class-count : (m : ℕ) (rows : List Row) (c : ℕ) (set : List ℕ) → IsIncreasing 1 m set → length (common_members set (clones_among m rows c)) ≡ clone_count rows set c
class-count m rows c set up = length-filter (has_member (clones_among m rows c)) set ∙ each 1 set (omega arith) up
  where
    each : (first : ℕ) (xs : List ℕ) → 1 ≤ first → IsIncreasing first m xs → count_by (has_member (clones_among m rows c)) xs ≡ count_by (are_clones rows c) xs
    each first [] low up' = refl
    each first (x ∷ xs) low up' =
        grind (arith, common_steps, each (x + 1) xs (omega arith) up'.2, has_member-filter, has_member-range, and-true, count-cons, bit)

-- those of a class of a table
pub own-count : (m : ℕ) (rows : List Row) (table : List (List ℕ)) (k : ℕ) (class set : List ℕ) → AreClones m rows table → 1 ≤ k → k ≤ m → class ≡ get_or table k [] → IsIncreasing 1 m set
    → length (common_members set class) ≡ clone_count rows set k
own-count m rows table k class set are low high is up = ap (λ l. length (common_members set l)) (is ∙ are k low high) ∙ class-count m rows k set up

-- ---- a set that is completed

pub completed-next : (rows : List Row) (other set all : List ℕ) (c x : ℕ) → c + 1 ≤ x → all ≡ fold (completed_by rows other) set (range_with_len (c + 1) (x - (c + 1)))
    → fold (completed_by rows other) set (range_with_len (c + 1) (x + 1 - (c + 1))) ≡ completed_by rows other all x
completed-next rows other set all c x low is =
    let more : x + 1 - (c + 1) ≡ suc (x - (c + 1)) = omega arith in
    ap (λ n. fold (completed_by rows other) set (range_with_len (c + 1) n)) more
    ∙ ap (fold (completed_by rows other) set) (range-more (c + 1) (x - (c + 1)) x (omega arith))
    ∙ fold-append (completed_by rows other) set (range_with_len (c + 1) (x - (c + 1))) (x ∷ [])
    ∙ ap (λ s. completed_by rows other s x) (sym is)

pub completed-with : (rows : List Row) (other all : List ℕ) (x : ℕ) → clone_count rows all x < clone_count rows other x → completed_by rows other all x ≡ with_member all x
completed-with rows other all x less = ap (λ b. cond b (with_member all x) all) (lt-ltb (clone_count rows all x) (clone_count rows other x) less)

pub completed-same : (rows : List Row) (other all : List ℕ) (x : ℕ) → clone_count rows other x ≤ clone_count rows all x → completed_by rows other all x ≡ all
completed-same rows other all x enough = ap (λ b. cond b (with_member all x) all) (le-ltb (clone_count rows all x) (clone_count rows other x) enough)
