-- Clones are of one class, and each row approves all of a class or none.
use Rattle.std.proofs.lemmas.Grind.{common_steps}
use Rattle.std.proofs.Common.{◌≡◌, ℕ, ◌∙◌, Bool, true, false, List, [], ◌∷◌, refl, sym, ap, arith, length, count_by}
use Rattle.std.specs.List.{AllByRecursion}
use Rattle.std.proofs.lemmas.Bool.{and_parts, and_from}
use Rattle.std.proofs.lemmas.List.Sums.{length-filter}
use Rattle.std.proofs.Math.Bool.{and_comm}
use Rattle.ballot_base.specs.Lists.{IsIncreasing}
use Rattle.ballot_base.specs.CandSet.{has_member, common_members}
use Rattle.ballot_base.specs.Ballots.{Row, hits}
use Rattle.ballot_base.proofs.Increasing.{IsIncreasing-filter, has_member-filter, same_increasing}
use Rattle.tie_walk.proofs.RowSums.{length-common}
use Rattle.ballot_base.proofs.CloneLemmas.{both-same, is_both}
use Rattle.ballot_base.specs.Clones.{are_clones}
use Rattle.sequential_winners.proofs.Numbers.{IsSameness}

-- ---- clones are of one class

both-itself : (x : Bool) → is_both x x ≡ true
both-itself true = refl
both-itself false = refl

both-turned : (x y : Bool) → is_both x y ≡ true → is_both y x ≡ true
both-turned true true e = refl
both-turned true false e = e
both-turned false true e = e
both-turned false false e = refl

both-joined : (x y z : Bool) → is_both x y ≡ true → is_both y z ≡ true → is_both x z ≡ true
both-joined true true z e f = f
both-joined true false z e f = absurd (let g : false ≡ true = e in cc)
both-joined false true z e f = absurd (let g : false ≡ true = e in cc)
both-joined false false z e f = f

pub clones-itself : (rows : List Row) (c : ℕ) → are_clones rows c c ≡ true
clones-itself [] c = refl
clones-itself (row ∷ rows) c = and_from (is_both (has_member row.0 c) (has_member row.0 c)) (are_clones rows c c) (both-itself (has_member row.0 c)) (clones-itself rows c)

pub clones-turned : (rows : List Row) (c d : ℕ) → are_clones rows c d ≡ true → are_clones rows d c ≡ true
clones-turned [] c d e = refl
clones-turned (row ∷ rows) c d e =
    let parts = and_parts (is_both (has_member row.0 c) (has_member row.0 d)) (are_clones rows c d) e in
    and_from (is_both (has_member row.0 d) (has_member row.0 c)) (are_clones rows d c) (both-turned (has_member row.0 c) (has_member row.0 d) parts.0) (clones-turned rows c d parts.1)

pub clones-joined : (rows : List Row) (c d e : ℕ) → are_clones rows c d ≡ true → are_clones rows d e ≡ true → are_clones rows c e ≡ true
clones-joined [] c d e cd de = refl
clones-joined (row ∷ rows) c d e cd de =
    let left = and_parts (is_both (has_member row.0 c) (has_member row.0 d)) (are_clones rows c d) cd in
    let right = and_parts (is_both (has_member row.0 d) (has_member row.0 e)) (are_clones rows d e) de in
    and_from (is_both (has_member row.0 c) (has_member row.0 e)) (are_clones rows c e) (both-joined (has_member row.0 c) (has_member row.0 d) (has_member row.0 e) left.0 right.0) (clones-joined rows c d e left.1 right.1)

pub clones-sameness : (rows : List Row) → IsSameness (are_clones rows)
clones-sameness rows = record { itself = clones-itself rows; turned = clones-turned rows; joined = clones-joined rows }

-- ---- what the rows say of them

-- the row approves all of a class or none
abbrev pub IsWhole : (ℕ → ℕ → Bool) → Row → Type 0
IsWhole same row = (c d : ℕ) → same c d ≡ true → has_member row.0 c ≡ has_member row.0 d

whole-rows : (same : ℕ → ℕ → Bool) (rows : List Row) → ((c d : ℕ) → same c d ≡ true → are_clones rows c d ≡ true) → AllByRecursion (IsWhole same) rows
whole-rows same [] are = tt
whole-rows same (row ∷ rows) are =
    grind (arith, common_steps, whole-rows same rows (λ c d cd. (and_parts (is_both (has_member row.0 c) (has_member row.0 d)) (are_clones rows c d) (are c d cd)).1), both-same, and_parts, is_both)

pub all_whole : (rows : List Row) → AllByRecursion (IsWhole (are_clones rows)) rows
all_whole rows = whole-rows (are_clones rows) rows (λ c d cd. cd)

-- the hits are the members of the set whom the ballot approves
pub hits-members : (m : ℕ) (ballot set : List ℕ) → IsIncreasing 1 m ballot → IsIncreasing 1 m set → hits ballot set ≡ count_by (has_member ballot) set
hits-members m ballot set up inside =
    let same : common_members ballot set ≡ common_members set ballot =
    same_increasing 1 m (common_members ballot set) (common_members set ballot) (IsIncreasing-filter (has_member set) 1 m ballot up) (IsIncreasing-filter (has_member ballot) 1 m set inside)
    (λ n. has_member-filter (has_member set) ballot n ∙ and_comm (has_member set n) (has_member ballot n) ∙ sym (has_member-filter (has_member ballot) set n)) in
    sym (length-common ballot set) ∙ ap length same ∙ length-filter (has_member ballot) set
