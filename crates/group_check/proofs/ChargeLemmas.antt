-- Charges: what a group lacks at least, by the votes that are charged to its obstacles.
use Rattle.std.proofs.Common.{◌≡◌, ℕ, ◌+◌, ◌-◌, ◌*◌, ◌/◌, ◌^◌, ◌≤◌, ◌&&◌, ◌++◌, Bool, true, false, cond, List, [], ◌∷◌, refl, sym, ap, subst, ◌∙◌, arith, length, filter, sum, sum_by, not}
use Rattle.std.specs.Prelude.{nat_le, slice_index}
use Rattle.std.proofs.lemmas.Bool.{and_from, and_parts, eqb-true, lt-leb}
use Rattle.std.proofs.lemmas.Nat.{mul-le}
use Rattle.std.proofs.Math.Nat.{div-le_self, div-mul-le_self}
use Rattle.std.proofs.lemmas.List.Filters.{length-filter_both}
use Rattle.std.proofs.lemmas.List.Sums.{sum_by-cons}
use Rattle.ballot_base.specs.Limits.{most_candidates}
use Rattle.ballot_base.specs.Lists.{IsIncreasing}
use Rattle.ballot_base.specs.CandSet.{has_member, common_members, other_members, includes}
use Rattle.ballot_base.specs.Ballots.{Row, Election, IsElection}
use Rattle.ballot_base.specs.Worths.{AreChosen, AreTooLow}
use Rattle.ballot_base.proofs.Included.{kept_all}
use Rattle.ballot_base.proofs.Increasing.{IsIncreasing-filter, IsIncreasing-higher, has_member-filter}
use Rattle.group_check.specs.declared.property.Property.{Property}
use Rattle.group_check.specs.declared.property.Property.TheVariants.{Pjr}
use Rattle.group_check.specs.declared.refutation.Choices.{Choices}
use Rattle.group_check.specs.declared.refutation.Agreement.{Agreement}
use Rattle.group_check.specs.Report.{fits_pair, group_of}
use Rattle.group_check.specs.Steps.Checking.{is_large}
use Rattle.group_check.specs.Steps.Refuting.{AreOpen, IsRefuted, CannotAgree, may_belong, possible_voters, obstacles, charge}
use Rattle.group_check.proofs.SetLemmas.{passes_at, all_pass, length-within, length-common}
use Rattle.group_check.proofs.BeginningLemmas.{small_ballots}
use Rattle.group_check.proofs.RefutationLemmas.{true_or_false, not_both, or-cases, in-both, approves, both-approved, belongs}

-- ---- sums

sums-same : (f g : ℕ → ℕ) → ((n : ℕ) → f n ≡ g n) → (xs : List ℕ) → sum_by f xs ≡ sum_by g xs
sums-same f g same [] = refl
sums-same f g same (x ∷ xs) = omega (arith, sum_by-cons f x xs, sum_by-cons g x xs, same x, sums-same f g same xs)

sum-nothing : (xs : List ℕ) → sum_by (λ (n : ℕ). 0) xs ≡ 0
sum-nothing [] = refl
sum-nothing (x ∷ xs) = omega (arith, sum_by-cons (λ (n : ℕ). 0) x xs, sum-nothing xs)

-- a sum over one row more
sums-first : (f : ℕ → Row → ℕ) (row : Row) (rows : List Row) (xs : List ℕ) → sum_by (λ n. sum_by (f n) (row ∷ rows)) xs ≡ sum_by (λ n. f n row) xs + sum_by (λ n. sum_by (f n) rows) xs
sums-first f row rows [] = refl
sums-first f row rows (x ∷ xs) =
    omega (
      arith,
      sum_by-cons (f x) row rows,
      sum_by-cons (λ n. sum_by (f n) (row ∷ rows)) x xs,
      sum_by-cons (λ n. f n row) x xs,
      sum_by-cons (λ n. sum_by (f n) rows) x xs,
      sums-first f row rows xs,
    )

-- as often the same as there are numbers that pass
shares : (p : ℕ → Bool) (q : ℕ) (xs : List ℕ) → sum_by (λ n. cond (p n) q 0) xs ≡ length (filter p xs) * q
shares p q [] = omega arith
shares p q (x ∷ xs) = cases (p x) refl (shares p q xs)
  where
    cases : (b : Bool) → p x ≡ b → sum_by (λ n. cond (p n) q 0) xs ≡ length (filter p xs) * q → sum_by (λ n. cond (p n) q 0) (x ∷ xs) ≡ length (cond b (x ∷ filter p xs) (filter p xs)) * q
    cases true is more =
        let here : cond (p x) q 0 ≡ q = ap (λ b. cond b q 0) is in
        let one : (length (filter p xs) + 1) * q ≡ length (filter p xs) * q + q = omega arith in
        omega (arith, sum_by-cons (λ n. cond (p n) q 0) x xs, more, here, one)
    cases false is more =
        let here : cond (p x) q 0 ≡ 0 = ap (λ b. cond b q 0) is in
        omega (arith, sum_by-cons (λ n. cond (p n) q 0) x xs, more, here)

-- ---- the votes of one row

-- a part is no more than the whole
pub part-of-all : (n parts : ℕ) → n / parts ≤ n
part-of-all n parts = div-le_self n parts

-- nothing is charged where there are no obstacles
pub no-member : (b : Bool) (against : List ℕ) (n share : ℕ) → length against ≡ 0 → cond (b && has_member against n) share 0 ≡ 0
no-member true [] n share none = refl
no-member false [] n share none = refl
no-member b (x ∷ xs) n share none = absurd (omega (arith, none))

obstacles-up : (agreement : Agreement) (ballot : List ℕ) → IsIncreasing 1 most_candidates agreement.candidates → IsIncreasing 1 most_candidates (obstacles agreement ballot)
obstacles-up agreement ballot up =
    elim agreement.approved as (λ b. IsIncreasing 1 most_candidates (cond b (other_members agreement.candidates ballot) (common_members agreement.candidates ballot))) [
      | true ↦ IsIncreasing-filter (λ n. not (has_member ballot n)) 1 most_candidates agreement.candidates up
      | false ↦ IsIncreasing-filter (has_member ballot) 1 most_candidates agreement.candidates up
    ]

-- the obstacles among some candidates
among : (against xs : List ℕ) → IsIncreasing 1 most_candidates against → IsIncreasing 1 most_candidates xs → length (filter (has_member against) xs) ≤ length against
among against xs up rises =
    length-within 1 most_candidates (filter (has_member against) xs) against (IsIncreasing-filter (has_member against) 1 most_candidates xs rises) up
    (λ n is. (and_parts (has_member against n) (has_member xs n) (sym (has_member-filter (has_member against) xs n) ∙ is)).0)

-- all of them where they are among these
all-among : (against xs : List ℕ) → IsIncreasing 1 most_candidates against → IsIncreasing 1 most_candidates xs → includes xs against ≡ true → length against ≤ length (filter (has_member against) xs)
all-among against xs up rises all =
    length-within 1 most_candidates against (filter (has_member against) xs) up (IsIncreasing-filter (has_member against) 1 most_candidates xs rises)
    (λ n is. has_member-filter (has_member against) xs n ∙ and_from (has_member against n) (has_member xs n) is (passes_at (has_member xs) against n all is))

module _ (property : Property) (committee : List ℕ) (level : ℕ) (choices : Choices) (agreement : Agreement) (spared : List ℕ) (up : IsIncreasing 1 most_candidates agreement.candidates)
    (rises : IsIncreasing 1 most_candidates spared) where
  abbrev pub may : List ℕ → Bool
  may ballot = may_belong property committee level choices ballot

  abbrev pub agrees : List ℕ → Bool
  agrees ballot = may ballot && includes spared (obstacles agreement ballot)

  abbrev part : ℕ → Row → ℕ
  part n row = charge property committee level choices agreement n row

  -- what is charged to others than the spared is at most the votes, and nothing of those who agree
  row-charged : (row : Row) → sum_by (λ n. part n row) agreement.candidates + cond (agrees row.0) row.1 0 * 2 ^ 20 ≤ sum_by (λ n. part n row) spared + cond (may row.0) row.1 0 * 2 ^ 20
  row-charged row = cases (may row.0)
    where
      against : List ℕ
      against = obstacles agreement row.0

      share : ℕ
      share = row.1 * 2 ^ 20 / length against

      whole : (b : Bool) → includes spared against ≡ b
          → length (filter (has_member against) agreement.candidates) * share + cond b row.1 0 * 2 ^ 20 ≤ length (filter (has_member against) spared) * share + row.1 * 2 ^ 20
      whole true all =
          let few = among against agreement.candidates (obstacles-up agreement row.0 up) up in
          let many = all-among against spared (obstacles-up agreement row.0 up) rises all in
          let products = mul-le (length (filter (has_member against) agreement.candidates)) share (length (filter (has_member against) spared)) share (omega (arith, few, many)) (omega arith) in
          omega (arith, products)
      whole false some =
          let few = among against agreement.candidates (obstacles-up agreement row.0 up) up in
          let products = mul-le (length (filter (has_member against) agreement.candidates)) share (length against) share few (omega arith) in
          let votes = div-mul-le_self (row.1 * 2 ^ 20) (length against) in
          let turned : length against * share ≡ share * length against = omega arith in
          omega (arith, products, votes, turned)

      cases : (b : Bool) → sum_by (λ n. cond (b && has_member against n) share 0) agreement.candidates + cond (b && includes spared against) row.1 0 * 2 ^ 20
          ≤ sum_by (λ n. cond (b && has_member against n) share 0) spared + cond b row.1 0 * 2 ^ 20
      cases true = omega (arith, shares (has_member against) share agreement.candidates, shares (has_member against) share spared, whole (includes spared against) refl)
      cases false = omega (arith, sum-nothing agreement.candidates, sum-nothing spared)

  pub charged : (rows : List Row) → sum_by (λ n. sum_by (part n) rows) agreement.candidates + sum (group_of agrees rows) * 2 ^ 20 ≤ sum_by (λ n. sum_by (part n) rows) spared + sum (group_of may rows) * 2 ^ 20
  charged [] = omega (arith, sum-nothing agreement.candidates, sum-nothing spared)
  charged (row ∷ rows) =
      omega (
        arith,
        sums-first part row rows agreement.candidates,
        sums-first part row rows spared,
        sum_by-cons (λ (x : ℕ). x) (cond (agrees row.0) row.1 0) (group_of agrees rows),
        sum_by-cons (λ (x : ℕ). x) (cond (may row.0) row.1 0) (group_of may rows),
        row-charged row,
        charged rows,
      )

module _ (property : Property) (e : Election) (committee : List ℕ) (level : ℕ) (choices : Choices) where
  -- where all that could be spared is charged with too little, too few voters agree
  pub too_few_agree : (agreement : Agreement) (voters needed spare due : ℕ) (charges : List ℕ) → IsIncreasing 1 most_candidates agreement.candidates
      → voters ≡ sum (possible_voters property e committee level choices) → ((v : ℕ) → nat_le needed v ≡ is_large e committee level v)
      → ((n : ℕ) → slice_index charges n ≡ sum_by (charge property committee level choices agreement n) e.rows)
      → spare ≡ (voters - needed) * 2 ^ 20 → due ≡ sum_by (λ n. slice_index charges n - 0) agreement.candidates - spare
      → AreTooLow (slice_index charges) agreement.candidates agreement.spared due → CannotAgree property e committee level choices agreement
  too_few_agree agreement voters needed spare due charges up all enough are spare_is due_is low spared chosen =
      let agree = agrees property committee level choices agreement spared up chosen.rises in
      let part = charge property committee level choices agreement in
      let law = charged property committee level choices agreement spared up chosen.rises e.rows in
      let whole = sums-same (λ n. slice_index charges n - 0) (λ n. sum_by (part n) e.rows) (λ n. omega (arith, are n)) agreement.candidates in
      let kept = sums-same (slice_index charges) (λ n. sum_by (part n) e.rows) are spared in
      let less = low spared chosen in
      sym (enough (sum (group_of agree e.rows)))
      ∙ lt-leb needed (sum (group_of agree e.rows)) (omega (arith, law, whole, kept, less, spare_is, due_is, all))

  -- ---- T and U

  -- the pool without T can be spared
  pub refuted_by_candidates : (agreement : Agreement) → IsElection e → AreOpen e.m committee choices → agreement ≡ record { candidates = choices.pool; spared = length choices.pool - choices.left; approved = true }
      → CannotAgree property e committee level choices agreement → IsRefuted property e committee level choices
  refuted_by_candidates agreement valid are is cannot more others tail seconds =
      let free = other_members choices.pool more in
      let same = length-common 1 e.m choices.pool more are.rises tail.increasing in
      let all = eqb-true (length (filter (has_member choices.pool) more)) (length more) (kept_all (has_member choices.pool) more ∙ all_pass (has_member choices.pool) more tail.inside) in
      let both = length-filter_both (has_member more) (λ n. not (has_member more n)) (λ n. refl) choices.pool in
      let chosen : AreChosen choices.pool (length choices.pool - choices.left) free = record {
        rises = IsIncreasing-higher 1 e.m most_candidates free valid.most (IsIncreasing-filter (λ n. not (has_member more n)) 1 e.m choices.pool are.rises);
        among = λ n h. (and_parts (not (has_member more n)) (has_member choices.pool n) (sym (has_member-filter (λ x. not (has_member more x)) choices.pool n) ∙ h)).1;
        few = omega (arith, same, all, both, tail.count);
      } in
      small_ballots e committee level (fits_pair property committee level (choices.shared ++ more, choices.within ++ others))
      (λ ballot. may_belong property committee level choices ballot && includes free (other_members choices.pool ballot)) valid
      (λ ballot i h.
      let approved = (both-approved ballot choices.shared more (approves property committee level (choices.shared ++ more) (choices.within ++ others) ballot h)).1 in
      and_from (may_belong property committee level choices ballot) (includes free (other_members choices.pool ballot)) (belongs e.m committee level property choices more others ballot tail seconds i h)
      (all_pass (has_member free) (other_members choices.pool ballot) (λ n k.
      let parts = and_parts (not (has_member ballot n)) (has_member choices.pool n) (sym (has_member-filter (λ x. not (has_member ballot x)) choices.pool n) ∙ k) in
      has_member-filter (λ x. not (has_member more x)) choices.pool n
      ∙ and_from (not (has_member more n)) (has_member choices.pool n)
      (true_or_false (has_member more n) (λ t. not_both (not (has_member ballot n)) parts.0 (ap not (passes_at (has_member ballot) more n approved t))) (λ f. ap not f)) parts.1)))
      ((subst (CannotAgree property e committee level choices) is cannot) free chosen)

  -- U can be spared
  pub refuted_by_members : (agreement : Agreement) → property ≡ Pjr → IsElection e → AreOpen e.m committee choices → agreement ≡ record { candidates = choices.members; spared = choices.room; approved = false }
      → CannotAgree property e committee level choices agreement → IsRefuted property e committee level choices
  refuted_by_members agreement pjr valid are is cannot more others tail seconds =
      let chosen : AreChosen choices.members choices.room others = record {
        rises = IsIncreasing-higher 1 e.m most_candidates others valid.most seconds.increasing;
        among = seconds.inside;
        few = seconds.count;
      } in
      small_ballots e committee level (fits_pair property committee level (choices.shared ++ more, choices.within ++ others))
      (λ ballot. may_belong property committee level choices ballot && includes others (common_members choices.members ballot)) valid
      (λ ballot i h.
      let approved = common_members ballot committee in
      let inside = (and_parts (includes ballot (choices.shared ++ more)) (includes (choices.within ++ others) approved) (rw pjr at h)).1 in
      and_from (may_belong property committee level choices ballot) (includes others (common_members choices.members ballot)) (belongs e.m committee level property choices more others ballot tail seconds i h)
      (all_pass (has_member others) (common_members choices.members ballot) (λ n k.
      let parts = and_parts (has_member ballot n) (has_member choices.members n) (sym (has_member-filter (has_member ballot) choices.members n) ∙ k) in
      let here : has_member approved n ≡ true = has_member-filter (has_member committee) ballot n ∙ and_from (has_member committee n) (has_member ballot n) (are.among n parts.1) parts.0 in
      or-cases (has_member choices.within n) (has_member others n) (sym (in-both choices.within others n) ∙ passes_at (has_member (choices.within ++ others)) approved n inside here)
      (λ first. not_both (has_member choices.within n) first (are.apart n parts.1))
      (λ second. second))))
      ((subst (CannotAgree property e committee level choices) is cannot) others chosen)
