-- What a candidate brings where each of its voters has more hits, compared over the rows.
use Rattle.std.proofs.lemmas.Grind.{common_steps}
use Rattle.std.proofs.Common.{◌≡◌, ℕ, zero, suc, ◌+◌, ◌-◌, ◌*◌, ◌<◌, ◌≤◌, ◌∙◌, ◌++◌, ◌||◌, ◌⊎◌, Bool, true, false, cond, List, [], ◌∷◌, sym, ap, subst, arith, inl, inr, count_by}
use Rattle.std.proofs.Math.Nat.{mul-le-mul, mul-lt-mul_of_pos_left}
use Rattle.std.specs.List.{AllByRecursion, list_all, list_any}
use Rattle.std.specs.Prelude.{nat_le}
use Rattle.std.proofs.lemmas.Bool.{cases_Bool, cases_lt, and_parts, le-leb, leb-true, lt-leb}
use Rattle.std.proofs.lemmas.List.Sums.{sum_by-cons}
use Rattle.ballot_base.specs.Lists.{IsIncreasing}
use Rattle.ballot_base.specs.CandSet.{has_member}
use Rattle.ballot_base.specs.Ballots.{Row, hits}
use Rattle.tie_walk.specs.Sequences.{weight, gain, loss}
use Rattle.tie_walk.specs.Steps.Choices.{worth, hits_of, is_no_better, open_candidates}
use Rattle.tie_walk.specs.declared.sequential.Step.{Step}
use Rattle.tie_walk.specs.declared.sequential.Step.TheVariants.{Grow, Shrink}
use Rattle.tie_walk.proofs.RowSums.{AreBallots}
use Rattle.tie_walk.proofs.WorthLemmas.{share, partial, worth-whole}
use Rattle.ballot_base.proofs.ListLemmas.{AllByRecursion-weaker}
use Rattle.ballot_base.specs.Clones.{are_clones}
use Rattle.sequential_winners.specs.Clones.{clone_count}
use Rattle.sequential_winners.specs.Steps.Levels.{picked, IsFalling}
use Rattle.sequential_winners.proofs.CloneLemmas.{IsWhole, all_whole, clones-sameness, hits-members}
use Rattle.sequential_winners.proofs.Lists.{all-pass, count-others, open-is}
use Rattle.sequential_winners.proofs.Numbers.{bit, count-append, count-cons, member-counts, sums-within}

-- what follows row by row
facts-from : (all : List Row) (m : ℕ) (P Q : Row → Type 0) → ((row : Row) → IsIncreasing 1 m row.0 → IsWhole (are_clones all) row → P row → Q row) → (rows : List Row) → AreBallots m rows
    → AllByRecursion (IsWhole (are_clones all)) rows → AllByRecursion P rows → AllByRecursion Q rows
facts-from all m P Q each [] ballots whole given = tt
facts-from all m P Q each (row ∷ rows) ballots whole given = (each row ballots.0 whole.0 given.0, facts-from all m P Q each rows ballots.1 whole.1 given.1)

pub each-row : (m : ℕ) (rows : List Row) (P Q : Row → Type 0) → AreBallots m rows → AllByRecursion P rows
    → ((row : Row) → IsIncreasing 1 m row.0 → IsWhole (are_clones rows) row → P row → Q row) → AllByRecursion Q rows
each-row m rows P Q ballots given each = facts-from rows m P Q each rows ballots (all_whole rows) given

pub few-of : (candidates : List ℕ) (rows : List Row) → list_all (λ (row : Row). nat_le (hits row.0 candidates) 1) rows ≡ true → AllByRecursion (λ (row : Row). hits row.0 candidates ≤ 1) rows
few-of candidates [] all = tt
few-of candidates (row ∷ rows) all =
    let parts = and_parts (nat_le (hits row.0 candidates) 1) (list_all (λ (r : Row). nat_le (hits r.0 candidates) 1) rows) all in
    (leb-true (hits row.0 candidates) 1 parts.0, few-of candidates rows parts.1)

-- ---- later hits

falls-by : (weights : List ℕ) → IsFalling weights → (i n : ℕ) → 1 ≤ i → weight weights (i + n) ≤ weight weights i
falls-by weights falls i zero low = let e : i + 0 ≡ i = omega arith in omega (arith, ap (weight weights) e)
falls-by weights falls i (suc n) low =
    let e : i + n + 1 ≡ i + suc n = omega arith in
    omega (arith, falls-by weights falls i n low, falls (i + n) (omega (arith, low)), ap (weight weights) e)

falls-at : (weights : List ℕ) → IsFalling weights → (i j : ℕ) → 1 ≤ i → i ≤ j → weight weights j ≤ weight weights i
falls-at weights falls i j low less = let e : i + (j - i) ≡ j = omega (arith, less) in omega (arith, falls-by weights falls i (j - i) low, ap (weight weights) e)

strict-at : (weights : List ℕ) → IsFalling weights → (i j : ℕ) → 1 ≤ i → i + 1 ≤ j → 0 < weight weights i → weight weights j < weight weights i
strict-at weights falls i j low less some = omega (arith, some, falls i low, falls-at weights falls (i + 1) j (omega arith) less)

module _ (step : Step) (weights set other : List ℕ) (c d : ℕ) where
  -- who approves one candidate approves the other, and has so many hits more at the other set
  abbrev pub IsLaterBy : ℕ → Row → Type 0
  IsLaterBy n row = (has_member row.0 c ≡ has_member row.0 d)
      × (has_member row.0 c ≡ true → (1 ≤ hits_of step (hits row.0 set)) × (hits_of step (hits row.0 set) + n ≤ hits_of step (hits row.0 other)))

  shares-later : IsFalling weights → (row : Row) → IsLaterBy 0 row → share step weights other d row ≤ share step weights set c row
  shares-later falls row later = grind (arith, common_steps, cases_Bool, falls-at)

  shares-less : IsFalling weights → (row : Row) → IsLaterBy 1 row → 0 < share step weights set c row → share step weights other d row < share step weights set c row
  shares-less falls row later positive = grind (arith, common_steps, cases_Bool, share, strict-at)

  later-by_more : (row : Row) → IsLaterBy 1 row → IsLaterBy 0 row
  later-by_more row later = (later.0, λ approved. ((later.1 approved).0, omega (arith, (later.1 approved).1)))

  voters-within : (row : Row) → share step weights other d row ≤ share step weights set c row → row.1 * share step weights other d row ≤ row.1 * share step weights set c row
  voters-within row less = mul-le-mul {n₁ = row.1} (omega arith) less

  voters-less : (row : Row) → 0 < row.1 → share step weights other d row < share step weights set c row → row.1 * share step weights other d row < row.1 * share step weights set c row
  voters-less row some less = mul-lt-mul_of_pos_left less some

  partials-within : (rows : List Row) → AllByRecursion (λ (row : Row). share step weights other d row ≤ share step weights set c row) rows
      → partial step weights other d rows ≤ partial step weights set c rows
  partials-within [] all = omega arith
  partials-within (row ∷ rows) all =
      omega (
        arith,
        voters-within row all.0,
        partials-within rows all.1,
        sum_by-cons (λ (r : Row). r.1 * share step weights set c r) row rows,
        sum_by-cons (λ (r : Row). r.1 * share step weights other d r) row rows,
      )

  -- less, if some voter's share is less
  partials-less_by : (p : Row → Bool) (rows : List Row) → AllByRecursion (λ (row : Row). 0 < row.1) rows
      → AllByRecursion (λ (row : Row). share step weights other d row ≤ share step weights set c row) rows
      → AllByRecursion (λ (row : Row). p row ≡ true → share step weights other d row < share step weights set c row) rows → list_any p rows ≡ true
      → partial step weights other d rows < partial step weights set c rows
  partials-less_by p [] counts all less some = absurd (let f : false ≡ true = some in cc)
  partials-less_by p (row ∷ rows) counts all less some =
      let own = sum_by-cons (λ (r : Row). r.1 * share step weights set c r) row rows in
      let its = sum_by-cons (λ (r : Row). r.1 * share step weights other d r) row rows in
      elim (cases_Bool (p row)) [
        | inl is ↦ omega (arith, own, its, voters-less row counts.0 (less.0 is), partials-within rows all.1)
        | inr fails ↦
            omega (
              arith,
              own,
              its,
              voters-within row all.0,
              partials-less_by p rows counts.1 all.1 less.1 (subst (λ b. (b || list_any p rows) ≡ true) fails some),
            )
      ]

  partials-later : IsFalling weights → (rows : List Row) → AllByRecursion (IsLaterBy 0) rows → partial step weights other d rows ≤ partial step weights set c rows
  partials-later falls rows later =
      partials-within rows (AllByRecursion-weaker (IsLaterBy 0) (λ (row : Row). share step weights other d row ≤ share step weights set c row) (shares-later falls) rows later)

  products : (n s t : ℕ) → t ≤ s → (0 < s → t < s) → 0 < n * s → n * t < n * s
  products zero s t most less positive = absurd (omega (arith, positive))
  products (suc n) zero t most less positive = absurd (let e : suc n * 0 ≡ 0 = grind arith in omega (arith, positive, e))
  products (suc n) (suc s) t most less positive = mul-lt-mul_of_pos_left (less (omega arith)) (omega arith)

  partials-less : IsFalling weights → (rows : List Row) → AllByRecursion (IsLaterBy 1) rows → 0 < partial step weights set c rows
      → partial step weights other d rows < partial step weights set c rows
  partials-less falls [] later positive = absurd (omega (arith, positive))
  partials-less falls (row ∷ rows) later positive =
      let own = sum_by-cons (λ (r : Row). r.1 * share step weights set c r) row rows in
      let its = sum_by-cons (λ (r : Row). r.1 * share step weights other d r) row rows in
      let same-or-less = later-by_more row later.0 in
      elim (cases_lt 0 (row.1 * share step weights set c row)) [
        | inl some ↦
            let first = products row.1 (share step weights set c row) (share step weights other d row) (shares-later falls row same-or-less) (shares-less falls row later.0) some in
            omega (arith, own, its, first, partials-later falls rows (AllByRecursion-weaker (IsLaterBy 1) (IsLaterBy 0) later-by_more rows later.1))
        | inr none ↦ omega (arith, own, its, voters-within row (shares-later falls row same-or-less), partials-less falls rows later.1 (omega (arith, own, positive, none)))
      ]

  pub worth-later : IsFalling weights → (rows : List Row) → AllByRecursion (IsLaterBy 0) rows → worth step weights rows other d ≤ worth step weights rows set c
  worth-later falls rows later = omega (arith, worth-whole step weights rows set c, worth-whole step weights rows other d, partials-later falls rows later)

  worth-within : (rows : List Row) → AllByRecursion (λ (row : Row). share step weights other d row ≤ share step weights set c row) rows → worth step weights rows other d ≤ worth step weights rows set c
  worth-within rows all = omega (arith, worth-whole step weights rows set c, worth-whole step weights rows other d, partials-within rows all)

  worth-less_by : (p : Row → Bool) (rows : List Row) → AllByRecursion (λ (row : Row). 0 < row.1) rows → AllByRecursion (λ (row : Row). share step weights other d row ≤ share step weights set c row) rows
      → AllByRecursion (λ (row : Row). p row ≡ true → share step weights other d row < share step weights set c row) rows → list_any p rows ≡ true
      → worth step weights rows other d < worth step weights rows set c
  worth-less_by p rows counts all less some = omega (arith, worth-whole step weights rows set c, worth-whole step weights rows other d, partials-less_by p rows counts all less some)

  pub worth-less : IsFalling weights → (rows : List Row) → AllByRecursion (IsLaterBy 1) rows → 0 < worth step weights rows set c → worth step weights rows other d < worth step weights rows set c
  worth-less falls rows later positive = grind (arith, common_steps, worth-whole, partials-less)

-- ---- at a set where more are picked

module _ (m : ℕ) (rows : List Row) (weights set other : List ℕ) (c d : ℕ) where
  -- d is a clone of c, and may be chosen at the other set, where with `less` as many of each class are picked as here with
  -- `more`
  pub record IsFurther (step : Step) (more less : List ℕ) : Type 0 where
    pub up : IsIncreasing 1 m set
    pub up' : IsIncreasing 1 m other
    pub clones : are_clones rows c d ≡ true
    pub free : has_member (open_candidates step m other) d ≡ true
    pub within : (e : ℕ) → clone_count rows (picked step m set) e + clone_count rows more e ≤ clone_count rows (picked step m other) e + clone_count rows less e

  abbrev IsLaterAt : Step → ℕ → Row → Type 0
  IsLaterAt Grow n row = IsLaterBy Grow weights set other c d n row
  IsLaterAt Shrink n row = IsLaterBy Shrink weights other set d c n row

  row-picked : (step : Step) (n : ℕ) (more less : List ℕ) (row : Row) → IsFurther step more less → IsWhole (are_clones rows) row → n + count_by (has_member row.0) less ≤ count_by (has_member row.0) more
      → count_by (has_member row.0) (picked step m set) + n ≤ count_by (has_member row.0) (picked step m other)
  row-picked step n more less row h whole few =
      let p = has_member row.0 in
      omega (
        arith,
        count-append p (picked step m set) more,
        count-append p (picked step m other) less,
        sums-within (are_clones rows) (clones-sameness rows) (λ y. cond (has_member row.0 y) 1 0) (λ x y xy. ap bit (whole x y xy)) (picked step m set ++ more) (picked step m other ++ less)
            (λ e. omega (arith, h.within e, count-append (are_clones rows e) (picked step m set) more, count-append (are_clones rows e) (picked step m other) less)),
      )

  row-later : (step : Step) (n : ℕ) (more less : List ℕ) → IsFurther step more less → (row : Row) → IsIncreasing 1 m row.0 → IsWhole (are_clones rows) row
      → (has_member row.0 d ≡ true → n + count_by (has_member row.0) less ≤ count_by (has_member row.0) more) → IsLaterAt step n row
  row-later Grow n more less h row ballot whole few = (
    whole c d h.clones,
    λ approved. (
      omega arith,
      omega (
        arith,
        row-picked Grow n more less row h whole (few (sym (whole c d h.clones) ∙ approved)),
        hits-members m row.0 set ballot h.up,
        hits-members m row.0 other ballot h.up',
      ),
    ),
  )
  row-later Shrink n more less h row ballot whole few = (
    sym (whole c d h.clones),
    λ approved. (
      omega (arith, hits-members m row.0 other ballot h.up', member-counts (has_member row.0) other d (open-is Shrink m other d h.free).1 approved),
      omega (
        arith,
        row-picked Shrink n more less row h whole (few approved),
        hits-members m row.0 set ballot h.up,
        hits-members m row.0 other ballot h.up',
        count-others (has_member row.0) m set h.up,
        count-others (has_member row.0) m other h.up',
      ),
    ),
  )

  -- who approves d approves so many more of `more` than of `less`
  abbrev pub HasMore : ℕ → List ℕ → List ℕ → Type 0
  HasMore n more less = AllByRecursion (λ (row : Row). has_member row.0 d ≡ true → n + count_by (has_member row.0) less ≤ count_by (has_member row.0) more) rows

  rows-later : (step : Step) (n : ℕ) (more less : List ℕ) → AreBallots m rows → IsFurther step more less → HasMore n more less → AllByRecursion (IsLaterAt step n) rows
  rows-later step n more less ballots h given =
      each-row m rows (λ row. has_member row.0 d ≡ true → n + count_by (has_member row.0) less ≤ count_by (has_member row.0) more) (IsLaterAt step n) ballots given (row-later step n more less h)

  -- the clone is no better there, and worse if n is 1
  pub no-better : (step : Step) (more less : List ℕ) → AreBallots m rows → IsFalling weights → IsFurther step more less → HasMore 0 more less
      → is_no_better step (worth step weights rows other d) (worth step weights rows set c) ≡ true
  no-better Grow more less ballots falls h given =
      le-leb (gain weights rows other d) (gain weights rows set c) (worth-later Grow weights set other c d falls rows (rows-later Grow 0 more less ballots h given))
  no-better Shrink more less ballots falls h given =
      le-leb (loss weights rows set c) (loss weights rows other d) (worth-later Shrink weights other set d c falls rows (rows-later Shrink 0 more less ballots h given))

  pub worse : (step : Step) (more less : List ℕ) → AreBallots m rows → IsFalling weights → IsFurther step more less → HasMore 1 more less → 0 < worth step weights rows set c
      → is_no_better step (worth step weights rows set c) (worth step weights rows other d) ≡ false
  worse Grow more less ballots falls h given some =
      lt-leb (gain weights rows set c) (gain weights rows other d) (worth-less Grow weights set other c d falls rows (rows-later Grow 1 more less ballots h given) some)
  worse Shrink more less ballots falls h given some =
      let later = rows-later Shrink 1 more less ballots h given in
      let no_less = worth-later Shrink weights other set d c falls rows (AllByRecursion-weaker (IsLaterBy Shrink weights other set d c 1) (IsLaterBy Shrink weights other set d c 0) (later-by_more Shrink weights other set d c) rows later) in
      lt-leb (loss weights rows other d) (loss weights rows set c) (worth-less Shrink weights other set d c falls rows later (omega (arith, some, no_less)))

  -- ---- voters to whom no further hit brings anything

  -- a further hit brings this voter nothing at the other set
  abbrev pub IsQuiet : Step → Row → Type 0
  IsQuiet Grow row = weight weights (hits row.0 other + 1) ≡ 0
  IsQuiet Shrink row = ⊥

  -- like `no-better`, where of the voters of d only those who still give approve no more of `less` than of `more`
  pub no-better_given : (step : Step) (more less : List ℕ) → AreBallots m rows → IsFalling weights → IsFurther step more less
      → AllByRecursion (λ (row : Row). has_member row.0 d ≡ true → (count_by (has_member row.0) less ≤ count_by (has_member row.0) more) ⊎ IsQuiet step row) rows
      → is_no_better step (worth step weights rows other d) (worth step weights rows set c) ≡ true
  no-better_given Grow more less ballots falls h given =
      le-leb (gain weights rows other d) (gain weights rows set c)
      (worth-within Grow weights set other c d rows
      (each-row m rows (λ (row : Row). has_member row.0 d ≡ true → (count_by (has_member row.0) less ≤ count_by (has_member row.0) more) ⊎ IsQuiet Grow row) (λ (row : Row). share Grow weights other d row ≤ share Grow weights set c row) ballots
      given (λ row ballot whole few. elim (cases_Bool (has_member row.0 d)) [
        | inl approved ↦ by row ballot whole approved (few approved)
        | inr fails ↦ omega (arith, ap (λ b. cond b (weight weights (hits row.0 other + 1)) 0) fails)
      ])))
    where
      by : (row : Row) → IsIncreasing 1 m row.0 → IsWhole (are_clones rows) row → has_member row.0 d ≡ true → (count_by (has_member row.0) less ≤ count_by (has_member row.0) more) ⊎ IsQuiet Grow row
          → share Grow weights other d row ≤ share Grow weights set c row
      by row ballot whole approved (inl few) = shares-later Grow weights set other c d falls row (row-later Grow 0 more less h row ballot whole (λ _. omega (arith, few)))
      by row ballot whole approved (inr quiet) = omega (arith, quiet, ap (λ b. cond b (weight weights (hits row.0 other + 1)) 0) approved)
  no-better_given Shrink more less ballots falls h given =
      no-better Shrink more less ballots falls h
      (each-row m rows (λ (row : Row). has_member row.0 d ≡ true → (count_by (has_member row.0) less ≤ count_by (has_member row.0) more) ⊎ IsQuiet Shrink row)
      (λ (row : Row). has_member row.0 d ≡ true → 0 + count_by (has_member row.0) less ≤ count_by (has_member row.0) more) ballots given (λ row ballot whole few approved. by row (few approved)))
    where
      by : (row : Row) → (count_by (has_member row.0) less ≤ count_by (has_member row.0) more) ⊎ IsQuiet Shrink row → 0 + count_by (has_member row.0) less ≤ count_by (has_member row.0) more
      by row (inl few) = omega (arith, few)
      by row (inr quiet) = absurd quiet

  -- the share of c's supporter, of the set or of the other set, which falls if the other set has one more hit
  abbrev pub falling_share : Step → Row → ℕ
  falling_share Grow row = share Grow weights set c row
  falling_share Shrink row = share Shrink weights other d row

  -- worse, if a voter who still gives approves both the candidate and somebody else who was picked
  pub worse-shared : (step : Step) (s : ℕ) → AreBallots m rows → AllByRecursion (λ (row : Row). 0 < row.1) rows → IsFalling weights → IsFurther step (s ∷ []) [] → (p : Row → Bool)
      → ((row : Row) → IsIncreasing 1 m row.0 → IsWhole (are_clones rows) row → p row ≡ true → (has_member row.0 s ≡ true) × (0 < falling_share step row)) → list_any p rows ≡ true
      → is_no_better step (worth step weights rows set c) (worth step weights rows other d) ≡ false
  worse-shared step s ballots counts falls h p is some = by step h is
    where
      one-more : (row : Row) → has_member row.0 s ≡ true → 1 + count_by (has_member row.0) [] ≤ count_by (has_member row.0) (s ∷ [])
      one-more row approved = omega (arith, count-cons (has_member row.0) s [], ap bit approved)

      all-later : (step : Step) → IsFurther step (s ∷ []) [] → AllByRecursion (IsLaterAt step 0) rows
      all-later step h = rows-later step 0 (s ∷ []) [] ballots h (all-pass (λ (row : Row). has_member row.0 d ≡ true → 0 + 0 ≤ count_by (has_member row.0) (s ∷ [])) rows (λ row approved. omega arith))

      by : (step : Step) → IsFurther step (s ∷ []) [] → ((row : Row) → IsIncreasing 1 m row.0 → IsWhole (are_clones rows) row → p row ≡ true → (has_member row.0 s ≡ true) × (0 < falling_share step row))
          → is_no_better step (worth step weights rows set c) (worth step weights rows other d) ≡ false
      by Grow h is =
          lt-leb (gain weights rows set c) (gain weights rows other d)
          (worth-less_by Grow weights set other c d p rows counts
          (AllByRecursion-weaker (IsLaterAt Grow 0) (λ (row : Row). share Grow weights other d row ≤ share Grow weights set c row) (shares-later Grow weights set other c d falls) rows (all-later Grow h))
          (each-row m rows (λ (row : Row). 0 < row.1) (λ (row : Row). p row ≡ true → share Grow weights other d row < share Grow weights set c row) ballots counts
          (λ row ballot whole voices passes. let here = is row ballot whole passes in shares-less Grow weights set other c d falls row (row-later Grow 1 (s ∷ []) [] h row ballot whole (λ _. one-more row here.0)) here.1)) some)
      by Shrink h is =
          lt-leb (loss weights rows other d) (loss weights rows set c)
          (worth-less_by Shrink weights other set d c p rows counts
          (AllByRecursion-weaker (IsLaterAt Shrink 0) (λ (row : Row). share Shrink weights set c row ≤ share Shrink weights other d row) (shares-later Shrink weights other set d c falls) rows (all-later Shrink h))
          (each-row m rows (λ (row : Row). 0 < row.1) (λ (row : Row). p row ≡ true → share Shrink weights set c row < share Shrink weights other d row) ballots counts
          (λ row ballot whole voices passes. let here = is row ballot whole passes in shares-less Shrink weights other set d c falls row (row-later Shrink 1 (s ∷ []) [] h row ballot whole (λ _. one-more row here.0)) here.1)) some)
