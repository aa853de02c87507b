-- Distances and the hits that they need.
use Rattle.std.proofs.Common.{◌≡◌, ℕ, zero, suc, ◌+◌, ◌-◌, ◌*◌, ◌<◌, ◌≤◌, ◌∙◌, ◌↔◌, ◌==◌, ◌&&◌, Bool, true, false, cond, List, [], ◌∷◌, ◌++◌, Some, refl, sym, ap, subst, arith, inl, inr, length, filter, fold, max, min, slice_get}
use Rattle.std.specs.List.{AllByRecursion}
use Rattle.std.proofs.lemmas.Bool.{cases_eq, cases_lt, and_parts, or_right}
use Rattle.std.proofs.lemmas.List.Sums.{sum_by-cons, length-filter, count_by-le-length}
use Rattle.ballot_base.specs.CandSet.{has_member, common_members}
use Rattle.ballot_base.specs.Lists.{IsIncreasing}
use Rattle.ballot_base.specs.Ballots.{Row, hits}
use Rattle.ballot_base.proofs.Increasing.{IsIncreasing-filter, has_member-filter, has_member_head, has_member_tail}
use Rattle.tie_walk.specs.Values.{distance, greatest_distance, closeness}
use Rattle.tie_walk.proofs.Distances.{ballot-found, common-least_right, common-turned, distance-sizes, greatest_distance-most}
use Rattle.tie_walk.proofs.RowSums.{length-common}
use Rattle.row_multipliers.specs.Completions.{IsNode, IsCompletion, IsReaching, IsOutOfReach}
use Rattle.row_multipliers.proofs.CompletionLemmas.{added, added-free, added-increasing, added-size, completion-few, completion-members, hits-same}
use Rattle.row_multipliers.proofs.NarrowedLemmas.{narrowed-by}
use Rattle.row_multipliers.proofs.HitLemmas.{hits-append, hits-more}
use Rattle.minimax_search.specs.Needs.{hits_needed}
use Rattle.tie_search.specs.Steps.Descent.{AreChoices}
use Rattle.row_multipliers.specs.Steps.Narrowed.{IsNarrowed}

-- ---- one ballot

-- both sizes have the hits twice
pub distance-hits : (m : ℕ) (ballot committee : List ℕ) → IsIncreasing 1 m ballot → IsIncreasing 1 m committee
    → distance ballot committee + 2 * hits ballot committee ≡ length ballot + length committee
distance-hits m ballot committee up rises = omega (arith, distance-sizes 1 m ballot committee up rises, length-common ballot committee)

pub needed-half : (far size k most h : ℕ) → far + 2 * h ≡ size + k → far ≤ most → hits_needed size k most ≤ h
needed-half far size k most h both near = omega (arith, both, near)

pub half-needed : (far size k most h : ℕ) → far + 2 * h ≡ size + k → hits_needed size k most ≤ h → far ≤ most
half-needed far size k most h both needed = omega (arith, both, needed)

pub near-hits : (m k most : ℕ) (ballot committee : List ℕ) → IsIncreasing 1 m ballot → IsIncreasing 1 m committee → length committee ≡ k
    → distance ballot committee ≤ most → hits_needed (length ballot) k most ≤ hits ballot committee
near-hits m k most ballot committee up rises size near =
    needed-half (distance ballot committee) (length ballot) k most (hits ballot committee) (distance-hits m ballot committee up rises ∙ ap (λ n. length ballot + n) size) near

pub hits-near : (m k most : ℕ) (ballot committee : List ℕ) → IsIncreasing 1 m ballot → IsIncreasing 1 m committee → length committee ≡ k
    → hits_needed (length ballot) k most ≤ hits ballot committee → distance ballot committee ≤ most
hits-near m k most ballot committee up rises size enough =
    half-needed (distance ballot committee) (length ballot) k most (hits ballot committee) (distance-hits m ballot committee up rises ∙ ap (λ n. length ballot + n) size) enough

-- ---- all ballots

module _ (committee : List ℕ) (most : ℕ) where
  greatest-all : (low : ℕ) (rows : List Row) → fold (λ greatest (row : Row). max greatest (distance row.0 committee)) low rows ≤ most
      → (low ≤ most) × AllByRecursion (λ (row : Row). distance row.0 committee ≤ most) rows
  greatest-all low [] h = (h, tt)
  greatest-all low (row ∷ rows) h =
      let rest = greatest-all (max low (distance row.0 committee)) rows h in
      (omega (arith, rest.0), (omega (arith, rest.0), rest.1))

  all-greatest : (low : ℕ) (rows : List Row) → low ≤ most → AllByRecursion (λ (row : Row). distance row.0 committee ≤ most) rows
      → fold (λ greatest (row : Row). max greatest (distance row.0 committee)) low rows ≤ most
  all-greatest low [] h all = h
  all-greatest low (row ∷ rows) h all = all-greatest (max low (distance row.0 committee)) rows (omega (arith, h, all.0)) all.1

-- each row of all
all-at : (P : Row → Type 0) (rows : List Row) (i : ℕ) (row : Row) → AllByRecursion P rows → slice_get rows i ≡ Some row → P row
all-at P [] i row all found = absurd cc
all-at P (r ∷ rows) zero row all found = let same : r ≡ row = cc in subst P same all.0
all-at P (r ∷ rows) (suc i) row all found = all-at P rows i row all.1 found

pub row-near : (rows : List Row) (committee : List ℕ) (most i : ℕ) (row : Row) → slice_get rows i ≡ Some row → greatest_distance rows committee ≤ most → distance row.0 committee ≤ most
row-near rows committee most i row found near =
    all-at (λ r. distance r.0 committee ≤ most) rows i row (greatest-all committee most 0 rows near).1 found

-- no ballot is far exactly where each has the hits that it needs
pub needs-met : (m k most : ℕ) (rows : List Row) (committee : List ℕ) → AllByRecursion (λ (row : Row). IsIncreasing 1 m row.0) rows → IsIncreasing 1 m committee → length committee ≡ k
    → (greatest_distance rows committee ≤ most) ↔ AllByRecursion (λ (row : Row). hits_needed (length row.0) k most ≤ hits row.0 committee) rows
needs-met m k most rows committee ballots rises size = (
  (λ near. enough rows ballots (greatest-all committee most 0 rows near).1),
  (λ all. all-greatest committee most 0 rows (omega arith) (close rows ballots all)),
)
  where
    enough : (rows : List Row) → AllByRecursion (λ (row : Row). IsIncreasing 1 m row.0) rows → AllByRecursion (λ (row : Row). distance row.0 committee ≤ most) rows
        → AllByRecursion (λ (row : Row). hits_needed (length row.0) k most ≤ hits row.0 committee) rows
    enough [] up all = tt
    enough (row ∷ rows) up all = (near-hits m k most row.0 committee up.0 rises size all.0, enough rows up.1 all.1)

    close : (rows : List Row) → AllByRecursion (λ (row : Row). IsIncreasing 1 m row.0) rows → AllByRecursion (λ (row : Row). hits_needed (length row.0) k most ≤ hits row.0 committee) rows
        → AllByRecursion (λ (row : Row). distance row.0 committee ≤ most) rows
    close [] up all = tt
    close (row ∷ rows) up all = (hits-near m k most row.0 committee up.0 rises size all.0, close rows up.1 all.1)

-- ---- hits of some and of all members

-- where there is a hit, someone is on the ballot and in the set
some-hit : (ballot xs : List ℕ) → 1 ≤ hits ballot xs → (n : ℕ) × (has_member ballot n ≡ true) × (has_member xs n ≡ true)
some-hit [] xs h = absurd (omega (arith, h))
some-hit (n ∷ ballot) xs h = by (has_member xs n) refl (some-hit ballot xs)
  where
    by : (b : Bool) → has_member xs n ≡ b → (1 ≤ hits ballot xs → (x : ℕ) × (has_member ballot x ≡ true) × (has_member xs x ≡ true))
        → (x : ℕ) × (has_member (n ∷ ballot) x ≡ true) × (has_member xs x ≡ true)
    by true here later = (n, has_member_head n ballot, here)
    by false there later =
        let none : cond (has_member xs n) 1 0 ≡ 0 = ap {B = ℕ} (λ b. cond b 1 0) there in
        let rest = later (omega (arith, h, none, sum_by-cons (λ y. cond (has_member xs y) 1 0) n ballot)) in
        (rest.0, or_right (n == rest.0) (has_member ballot rest.0) rest.1, rest.2)

all-left : (p : ℕ → Bool) (xs : List ℕ) → length xs ≤ length (filter p xs) → (n : ℕ) → has_member xs n ≡ true → p n ≡ true
all-left p [] h n is = absurd cc
all-left p (x ∷ xs) h n is = by (p x) refl (all-left p xs)
  where
    few : length (filter p xs) ≤ length xs
    few = omega (arith, length-filter p xs, count_by-le-length p xs)

    by : (b : Bool) → p x ≡ b → (length xs ≤ length (filter p xs) → (k : ℕ) → has_member xs k ≡ true → p k ≡ true) → p n ≡ true
    by true here later =
        let more : length (filter p (x ∷ xs)) ≡ length (x ∷ filter p xs) = ap {B = ℕ} (λ b. length (cond b (x ∷ filter p xs) (filter p xs))) here in
        elim (cases_eq x n) [
          | inl same ↦ ap p (sym same) ∙ here
          | inr other ↦ later (omega (arith, h, more)) n (sym (has_member_tail x n xs other) ∙ is)
        ]
    by false there later =
        let out : length (filter p (x ∷ xs)) ≡ length (filter p xs) = ap {B = ℕ} (λ b. length (cond b (x ∷ filter p xs) (filter p xs))) there in
        absurd (omega (arith, h, out, few))

-- where there are as many hits as members, all are on the ballot
pub all-hit : (m : ℕ) (ballot xs : List ℕ) → IsIncreasing 1 m ballot → IsIncreasing 1 m xs → length xs ≤ hits ballot xs → (n : ℕ) → has_member xs n ≡ true → has_member ballot n ≡ true
all-hit m ballot xs up rises enough =
    all-left (has_member ballot) xs (omega (arith, enough, length-common ballot xs, ap length (common-turned 1 m ballot xs up rises)))

-- a common member is in the second set
common-in : (xs ys : List ℕ) (n : ℕ) → has_member (common_members xs ys) n ≡ true → has_member ys n ≡ true
common-in xs ys n h = (and_parts (has_member ys n) (has_member xs n) (sym (has_member-filter (has_member ys) xs n) ∙ h)).0

-- ---- committees that are near

pub value-near : (m : ℕ) (rows : List Row) (most : ℕ) (committee : List ℕ) → AllByRecursion (λ (row : Row). IsIncreasing 1 m row.0) rows → IsIncreasing 1 m committee
    → m - most ≤ closeness m rows committee → greatest_distance rows committee ≤ most
value-near m rows most committee ballots rises reaches = omega (arith, reaches, greatest_distance-most m rows committee ballots rises)

module _ (m : ℕ) (rows : List Row) (most : ℕ) (set free : List ℕ) (left : ℕ) (ballots : AllByRecursion (λ (row : Row). IsIncreasing 1 m row.0) rows) (is_node : IsNode m set free)
    (i : ℕ) (row : Row) (found : slice_get rows i ≡ Some row) where
  -- those who are added to a committee that is near give the ballot the hits that it still needs
  hits-added : (committee : List ℕ) → IsReaching (closeness m rows) m set free left (m - most) committee → (whole : IsCompletion m set free left committee)
      → hits_needed (length row.0) (length set + left) most ≤ hits row.0 set + hits row.0 (added m set free left committee is_node whole)
  hits-added committee near whole =
      let more = added m set free left committee is_node whole in
      let apart : (n : ℕ) → has_member more n ≡ true → has_member set n ≡ false = λ n h. is_node.apart n (added-free m set free left committee is_node whole n h) in
      omega (
        arith,
        near-hits m (length set + left) most row.0 committee (ballot-found m rows i row ballots found) whole.candidates whole.size
            (row-near rows committee most i row found (value-near m rows most committee ballots whole.candidates near.reaches)),
        hits-same row.0 committee (set ++ more) (completion-members m set free left committee is_node whole),
        hits-append row.0 set more apart,
      )

  hits-few : (committee : List ℕ) (whole : IsCompletion m set free left committee) → hits row.0 (added m set free left committee is_node whole) ≤ left
  hits-few committee whole =
      let more = added m set free left committee is_node whole in
      omega (
        arith,
        added-size m set free left committee is_node whole,
        length-common row.0 more,
        common-least_right 1 m row.0 more (ballot-found m rows i row ballots found) (added-increasing m set free left committee is_node whole),
      )

  hits-free : (committee : List ℕ) (whole : IsCompletion m set free left committee) → hits row.0 (added m set free left committee is_node whole) ≤ hits row.0 free
  hits-free committee whole =
      hits-more row.0 (added m set free left committee is_node whole) free (added-free m set free left committee is_node whole)

  -- a ballot that needs more than it can have
  pub hopeless : min left (hits row.0 free) < hits_needed (length row.0) (length set + left) most - hits row.0 set → IsOutOfReach (closeness m rows) m set free left (m - most)
  hopeless short committee whole = elim (cases_lt (closeness m rows committee) (m - most)) [
    | inl under ↦ under
    | inr reaches ↦
        let near : IsReaching (closeness m rows) m set free left (m - most) committee = record { completes = whole; reaches = reaches } in
        absurd (omega (arith, short, hits-added committee near whole, hits-few committee whole, hits-free committee whole))
  ]

  in-both : (n : ℕ) → has_member free n ≡ true → has_member row.0 n ≡ true → has_member (common_members row.0 free) n ≡ true
  in-both n open_ here = has_member-filter (has_member free) row.0 n ∙ ap (λ b. b && has_member row.0 n) open_ ∙ here

  -- where a ballot needs as many hits as there are seats left, all who join are on it
  pub narrowed-to_ballot : left ≤ hits_needed (length row.0) (length set + left) most - hits row.0 set → IsNarrowed (closeness m rows) m set free left (m - most) (common_members row.0 free)
  narrowed-to_ballot all =
      narrowed-by (closeness m rows) m set free left (m - most) (common_members row.0 free) is_node (IsIncreasing-filter (has_member free) 1 m row.0 (ballot-found m rows i row ballots found))
      (common-in row.0 free) on-ballot
    where
      on-ballot : (committee : List ℕ) → IsCompletion m set free left committee → m - most ≤ closeness m rows committee → (n : ℕ) → has_member committee n ≡ true → has_member free n ≡ true
          → has_member (common_members row.0 free) n ≡ true
      on-ballot committee whole reaches n in_ open_ =
          let more = added m set free left committee is_node whole in
          let near : IsReaching (closeness m rows) m set free left (m - most) committee = record { completes = whole; reaches = reaches } in
          let here : has_member more n ≡ true = has_member-filter (has_member committee) free n ∙ ap (λ b. b && has_member free n) in_ ∙ open_ in
          in-both n open_ (all-hit m row.0 more (ballot-found m rows i row ballots found) (added-increasing m set free left committee is_node whole)
          (omega (arith, all, hits-added committee near whole, added-size m set free left committee is_node whole)) n here)

  -- one of those on a ballot that needs a hit has to join
  pub choice-of_ballot : 1 ≤ hits_needed (length row.0) (length set + left) most - hits row.0 set → AreChoices (closeness m rows) m set free left (m - most) (common_members row.0 free)
  choice-of_ballot some = record {
    among = common-in row.0 free;
    one = λ committee near.
        let more = added m set free left committee is_node near.completes in
        let hit = some-hit row.0 more (omega (arith, some, hits-added committee near near.completes)) in
        let open_ : has_member free hit.0 ≡ true = added-free m set free left committee is_node near.completes hit.0 hit.2 in (
          hit.0,
          in-both hit.0 open_ hit.1,
          common-in free committee hit.0 hit.2,
        );
  }

-- ---- a node

-- too few are free
pub too-few : (value : List ℕ → ℕ) (m : ℕ) (set free : List ℕ) (left least : ℕ) → IsNode m set free → length free < left → IsOutOfReach value m set free left least
too-few value m set free left least is_node few committee whole = absurd (omega (arith, few, completion-few m set free left committee is_node whole))
