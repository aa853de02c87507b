-- What ballots need, weighted, and the weights of the candidates who can join.
use Rattle.std.proofs.Common.{◌≡◌, ℕ, ◌+◌, ◌-◌, ◌*◌, ◌<◌, ◌≤◌, ◌∙◌, ◌&&◌, ◌||◌, ◌==◌, zero, suc, subst, Bool, true, false, cond, List, [], ◌∷◌, ◌++◌, refl, sym, ap, arith, length, sum_by, slice_get, slice_index, Some, ◌^◌}
use Rattle.std.specs.List.{AllByRecursion}
use Rattle.std.proofs.Math.Nat.{mul-le-mul_left}
use Rattle.std.proofs.lemmas.List.Sums.{sum_by-cons}
use Rattle.ballot_base.specs.CandSet.{has_member, common_members}
use Rattle.ballot_base.specs.Lists.{IsIncreasing}
use Rattle.ballot_base.specs.Ballots.{Row, Election, IsElection, hits, voter_count}
use Rattle.ballot_base.proofs.Increasing.{has_member-filter, has_member_head}
use Rattle.tie_walk.specs.Sequences.{supporters}
use Rattle.tie_walk.specs.Values.{closeness, greatest_distance}
use Rattle.row_multipliers.specs.Completions.{IsNode, IsCompletion}
use Rattle.row_multipliers.specs.declared.multipliers.Constraint.{Constraint}
use Rattle.row_multipliers.specs.declared.node.Node.{Node}
use Rattle.minimax_search.specs.Needs.{hits_needed, weighted_needs, weighted_support}
use Rattle.row_multipliers.proofs.CompletionLemmas.{added, added-free, added-increasing, added-size, completion-members, completion-outside, hits-same, or-more}
use Rattle.row_multipliers.proofs.HitLemmas.{hits-append, hits-turned}
use Rattle.minimax_search.proofs.NeedLemmas.{needs-met, value-near}
use Rattle.ballot_base.proofs.Sums.{sum-member, sum-part, sum-threshold}

-- ---- hits by rows and by candidates

module _ (weight : Row → ℕ) where
  -- a row more
  pub support-cons : (row : Row) (rows : List Row) (n : ℕ) → weighted_support weight (row ∷ rows) n ≡ weight row * cond (has_member row.0 n) 1 0 + weighted_support weight rows n
  support-cons row rows n = by (has_member row.0 n)
    where
      by : (b : Bool) → sum_by weight (cond b (row ∷ supporters rows n) (supporters rows n)) ≡ weight row * cond b 1 0 + weighted_support weight rows n
      by true = omega (arith, sum_by-cons weight row (supporters rows n))
      by false = omega arith

  supports-cons : (row : Row) (rows : List Row) (xs : List ℕ)
      → sum_by (weighted_support weight (row ∷ rows)) xs ≡ weight row * sum_by (λ n. cond (has_member row.0 n) 1 0) xs + sum_by (weighted_support weight rows) xs
  supports-cons row rows [] = omega arith
  supports-cons row rows (n ∷ xs) =
      let split : (a b c : ℕ) → a * (b + c) ≡ a * b + a * c = λ a b c. omega arith in
      omega (
        arith,
        support-cons row rows n,
        supports-cons row rows xs,
        split (weight row) (cond (has_member row.0 n) 1 0) (sum_by (λ x. cond (has_member row.0 x) 1 0) xs),
        ap (λ x. weight row * x) (sum_by-cons (λ x. cond (has_member row.0 x) 1 0) n xs),
        sum_by-cons (weighted_support weight (row ∷ rows)) n xs,
        sum_by-cons (weighted_support weight rows) n xs,
      )

  weighted-hits : (m : ℕ) (rows : List Row) (xs : List ℕ) → AllByRecursion (λ (row : Row). IsIncreasing 1 m row.0) rows → IsIncreasing 1 m xs
      → sum_by (λ (row : Row). weight row * hits row.0 xs) rows ≡ sum_by (weighted_support weight rows) xs
  weighted-hits m [] xs ballots up = none xs
    where
      none : (xs : List ℕ) → 0 ≡ sum_by (weighted_support weight []) xs
      none [] = refl
      none (x ∷ xs) = omega (arith, none xs, sum_by-cons (weighted_support weight []) x xs)
  weighted-hits m (row ∷ rows) xs ballots up =
      omega (
        arith,
        sum_by-cons (λ (r : Row). weight r * hits r.0 xs) row rows,
        ap (λ h. weight row * h) (hits-turned m row.0 xs ballots.0 up),
        weighted-hits m rows xs ballots.1 up,
        supports-cons row rows xs,
      )

  -- those who join give each row what it needs
  needs-given : (k most : ℕ) (set xs : List ℕ) (rows : List Row) → AllByRecursion (λ (row : Row). hits_needed (length row.0) k most ≤ hits row.0 set + hits row.0 xs) rows
      → weighted_needs weight k most set rows ≤ sum_by (λ (row : Row). weight row * hits row.0 xs) rows
  needs-given k most set xs [] met = omega arith
  needs-given k most set xs (row ∷ rows) met =
      let need = hits_needed (length row.0) k most - hits row.0 set in
      let one : need ≤ hits row.0 xs = omega (arith, met.0) in
      let product : weight row * need ≤ weight row * hits row.0 xs = mul-le-mul_left (weight row) one in
      omega (
        arith,
        product,
        needs-given k most set xs rows met.1,
        sum_by-cons (λ (r : Row). weight r * (hits_needed (length r.0) k most - hits r.0 set)) row rows,
        sum_by-cons (λ (r : Row). weight r * hits r.0 xs) row rows,
      )

-- ---- the rows so far

-- there are no more rows than voters
rows-few : (rows : List Row) → AllByRecursion (λ (row : Row). 0 < row.1) rows → length rows ≤ voter_count rows
rows-few [] counts = omega arith
rows-few (row ∷ rows) counts = omega (arith, counts.0, rows-few rows counts.1, sum_by-cons (λ (r : Row). r.1) row rows)

pub rows-few-enough : (e : Election) → IsElection e → length e.rows ≤ 2 ^ 32
rows-few-enough e valid = omega (arith, rows-few e.rows valid.counts, valid.voters)

-- ---- committees that are near

module _ (weight : Row → ℕ) (m k most : ℕ) (rows : List Row) (set free : List ℕ) (left : ℕ) (committee : List ℕ) (ballots : AllByRecursion (λ (row : Row). IsIncreasing 1 m row.0) rows)
    (is_node : IsNode m set free) (whole : IsCompletion m set free left committee) (size : length set + left ≡ k) (near : greatest_distance rows committee ≤ most) where
  -- those who join give each ballot what it needs
  pub needs-split : AllByRecursion (λ (row : Row). hits_needed (length row.0) k most ≤ hits row.0 set + hits row.0 (added m set free left committee is_node whole)) rows
  needs-split = split rows ((needs-met m k most rows committee ballots whole.candidates (whole.size ∙ size)).0 near)
    where
      split : (rows : List Row) → AllByRecursion (λ (row : Row). hits_needed (length row.0) k most ≤ hits row.0 committee) rows
          → AllByRecursion (λ (row : Row). hits_needed (length row.0) k most ≤ hits row.0 set + hits row.0 (added m set free left committee is_node whole)) rows
      split [] met = tt
      split (row ∷ rows) met =
          let more = added m set free left committee is_node whole in
          let apart : (n : ℕ) → has_member more n ≡ true → has_member set n ≡ false = λ n h. is_node.apart n (added-free m set free left committee is_node whole n h) in (
            omega (
              arith,
              met.0,
              hits-same row.0 committee (set ++ more) (completion-members m set free left committee is_node whole),
              hits-append row.0 set more apart,
            ),
            split rows met.1,
          )

  -- the weights of those who join are no less than the needs
  pub needs-joined : weighted_needs weight k most set rows ≤ sum_by (weighted_support weight rows) (added m set free left committee is_node whole)
  needs-joined =
      let more = added m set free left committee is_node whole in
      omega (
        arith,
        needs-given weight k most set more rows needs-split,
        weighted-hits weight m rows more ballots (added-increasing m set free left committee is_node whole),
      )

  pub needs-bound : (t : ℕ) → weighted_needs weight k most set rows ≤ left * t + sum_by (λ n. weighted_support weight rows n - t) free
  needs-bound t =
      let support = weighted_support weight rows in
      omega (
        arith,
        needs-joined,
        sum-threshold support support t (added m set free left committee is_node whole) (λ n is. omega arith),
        ap (λ n. n * t) (added-size m set free left committee is_node whole),
        sum-part (λ n. support n - t) (has_member committee) free,
      )

  pub member-bound : (t n : ℕ) → has_member free n ≡ true → has_member committee n ≡ true
      → weighted_needs weight k most set rows + (t - weighted_support weight rows n) ≤ left * t + sum_by (λ n. weighted_support weight rows n - t) free
  member-bound t n open_ in_ =
      let support = weighted_support weight rows in
      let more = added m set free left committee is_node whole in
      let here : has_member more n ≡ true = has_member-filter (has_member committee) free n ∙ ap (λ b. b && has_member free n) in_ ∙ open_ in
      omega (
        arith,
        needs-joined,
        sum-member support support t n more (λ n is. omega arith) here,
        ap (λ n. n * t) (added-size m set free left committee is_node whole),
        sum-part (λ n. support n - t) (has_member committee) free,
      )

-- ---- what weighted needs say of a set

-- the total weight of what ballots need, and supports of the free candidates: candidates that give each ballot the hits
-- that it needs have at least the total as their supports together
abbrev pub AreWeighted : Election → ℕ → ℕ → List ℕ → List ℕ → ℕ → List ℕ → Type 0
AreWeighted e k most set free total supports = (more : List ℕ) → IsIncreasing 1 e.m more
    → ((n : ℕ) → has_member more n ≡ true → has_member free n ≡ true)
    → AllByRecursion (λ (row : Row). hits_needed (length row.0) k most ≤ hits row.0 set + hits row.0 more) e.rows
    → total ≤ sum_by (slice_index supports) more

-- the needs of the first rows, as many as turns
pub record AreNeeds (e : Election) (most : ℕ) (node : Node) (turns : ℕ) (needs : Constraint) : Type 0 where
  pub unpaid : needs.paid ≡ 0
  pub weighted : AreWeighted e (length node.set + node.left) most node.set node.free needs.due needs.worths
  pub small_total : needs.due ≤ turns * 2 ^ 70
  pub small : (n : ℕ) → slice_index needs.worths n ≤ turns * 2 ^ 62

-- nothing is needed
pub weighted-none : (e : Election) (k most : ℕ) (set free supports : List ℕ) → AreWeighted e k most set free 0 supports
weighted-none e k most set free supports more up within met = omega arith

-- a row that was found has what each row has
row-met : (P : Row → Type 0) (rows : List Row) (i : ℕ) (row : Row) → AllByRecursion P rows → slice_get rows i ≡ Some row → P row
row-met P [] i row all found = absurd (cc)
row-met P (r ∷ rows) zero row all found = let same : r ≡ row = cc in subst P same all.0
row-met P (r ∷ rows) (suc i) row all found = row-met P rows i row all.1 found

-- a weight more for those on a ballot
support-more : (before after : ℕ → ℕ) (ballot : List ℕ) (weight : ℕ) (xs : List ℕ)
    → ((n : ℕ) → has_member xs n ≡ true → after n ≡ before n + cond (has_member ballot n) weight 0)
    → sum_by after xs ≡ sum_by before xs + weight * sum_by (λ n. cond (has_member ballot n) 1 0) xs
support-more before after ballot weight [] more = omega arith
support-more before after ballot weight (x ∷ xs) more =
    let split : (a b c : ℕ) → a * (b + c) ≡ a * b + a * c = λ a b c. omega arith in
    omega (
      arith,
      more x (has_member_head x xs),
      times (has_member ballot x),
      support-more before after ballot weight xs (λ n is. more n (or-true (x == n) (has_member xs n) is)),
      split weight (cond (has_member ballot x) 1 0) (sum_by (λ n. cond (has_member ballot n) 1 0) xs),
      ap (λ n. weight * n) (sum_by-cons (λ n. cond (has_member ballot n) 1 0) x xs),
      sum_by-cons before x xs,
      sum_by-cons after x xs,
    )
  where
    or-true : (p q : Bool) → q ≡ true → (p || q) ≡ true
    or-true true q h = refl
    or-true false q h = h

    times : (b : Bool) → weight * cond b 1 0 ≡ cond b weight 0
    times true = omega arith
    times false = omega arith

-- a row more, with any weight
pub weighted-more : (e : Election) (k most : ℕ) (set free : List ℕ) (total sum weight need : ℕ) (supports added : List ℕ) (i : ℕ) (row : Row)
    → AllByRecursion (λ (r : Row). IsIncreasing 1 e.m r.0) e.rows → slice_get e.rows i ≡ Some row → need ≡ hits_needed (length row.0) k most - hits row.0 set
    → AreWeighted e k most set free total supports → sum ≡ total + weight * need
    → ((n : ℕ) → has_member free n ≡ true → slice_index added n ≡ slice_index supports n + cond (has_member row.0 n) weight 0)
    → AreWeighted e k most set free sum added
weighted-more e k most set free total sum weight need supports added i row ballots found is are sum_is supported more up within met =
    let needed : hits_needed (length row.0) k most ≤ hits row.0 set + hits row.0 more =
    row-met (λ r. hits_needed (length r.0) k most ≤ hits r.0 set + hits r.0 more) e.rows i row met found in
    let one : need ≤ hits row.0 more = omega (arith, is, needed) in
    let product : weight * need ≤ weight * hits row.0 more = mul-le-mul_left weight one in
    omega (
      arith,
      sum_is,
      product,
      are more up within met,
      support-more (slice_index supports) (slice_index added) row.0 weight more (λ n in_. supported n (within n in_)),
      ap (λ h. weight * h) (hits-turned e.m row.0 more (row-met (λ r. IsIncreasing 1 e.m r.0) e.rows i row ballots found) up),
    )

-- the supports of those who join are no less than the total
pub weighted-paid : (e : Election) (most : ℕ) (set free : List ℕ) (left total : ℕ) (supports : List ℕ) → AllByRecursion (λ (row : Row). IsIncreasing 1 e.m row.0) e.rows → IsNode e.m set free
    → AreWeighted e (length set + left) most set free total supports → (committee : List ℕ) → IsCompletion e.m set free left committee → e.m - most ≤ closeness e.m e.rows committee
    → total ≤ sum_by (slice_index supports) (common_members free committee)
weighted-paid e most set free left total supports ballots is_node are committee whole reaches =
    are (added e.m set free left committee is_node whole) (added-increasing e.m set free left committee is_node whole) (added-free e.m set free left committee is_node whole)
    (needs-split (λ row. 0) e.m (length set + left) most e.rows set free left committee ballots is_node whole refl (value-near e.m e.rows most committee ballots whole.candidates reaches))

-- those who complete a set are the same, however many others are free
pub paid-fewer : (value : List ℕ → ℕ) (m : ℕ) (set free rest : List ℕ) (left least due : ℕ) (worth : ℕ → ℕ) → IsNode m set free → IsNode m set rest
    → ((n : ℕ) → has_member rest n ≡ true → has_member free n ≡ true)
    → ((committee : List ℕ) → IsCompletion m set free left committee → least ≤ value committee → due ≤ sum_by worth (common_members free committee))
    → (committee : List ℕ) → IsCompletion m set rest left committee → least ≤ value committee → due ≤ sum_by worth (common_members rest committee)
paid-fewer value m set free rest left least due worth is_node fewer among pays committee whole reaches =
    let more : IsCompletion m set free left committee = record {
      candidates = whole.candidates;
      whole = whole.whole;
      within = λ n is. or-more (has_member set n) (has_member rest n) (has_member free n) (among n) (whole.within n is);
      size = whole.size;
    } in
    let same : common_members free committee ≡ common_members rest committee = sym (completion-outside m set free left committee is_node more) ∙ completion-outside m set rest left committee fewer whole in
    rw same at (pays committee more reaches)
