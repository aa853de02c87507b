-- Families without clones: where each has k members, they are the winners.
use Rattle.std.proofs.lemmas.Grind.{common_steps}
use Rattle.std.proofs.Common.{◌≡◌, ℕ, ◌<◌, ◌≤◌, ◌==◌, ◌&&◌, ◌∙◌, true, List, [], ◌∷◌, sym, ap, subst, arith, length, get_or, Contains}
use Rattle.std.specs.List.{list_all, list_any, range_with_len, zip, AllByRecursion}
use Rattle.std.proofs.lemmas.Bool.{cases_eq, eqb-true, and_parts, and_from}
use Rattle.std.proofs.lemmas.Cmp.{nat_list_cmp_total}
use Rattle.std.proofs.lemmas.List.{get_or_default}
use Rattle.std.proofs.lemmas.List.Elements.{All-contains, All-from_recursion}
use Rattle.ballot_base.specs.Lists.{IsIncreasing, increasing_lists}
use Rattle.ballot_base.specs.CandSet.{has_member}
use Rattle.ballot_base.specs.Ballots.{Row, Election}
use Rattle.ballot_base.proofs.Committees.{increasing_lists-contains, chosen-from_contains}
use Rattle.ballot_base.proofs.Increasing.{has_member-filter, has_member_tail, same_increasing}
use Rattle.ballot_base.proofs.Later.{sorted_from_later}
use Rattle.tie_walk.specs.Sequences.{is_sequential_winner, sequential_winners}
use Rattle.tie_walk.specs.declared.sequential.SeqRule.{SeqRule}
use Rattle.tie_walk.proofs.LawLemmas.{Contains-from_filter, passes-from_filter, Contains-filter}
use Rattle.tie_walk.proofs.LevelLemmas.{in_bounds}
use Rattle.tie_walk.proofs.SequenceLaws.{sequential-later}
use Rattle.tie_walk.proofs.SequenceLemmas.{same_sorted}
use Rattle.tie_walk.proofs.StepLemmas.{has_member-range}
use Rattle.ballot_base.specs.Clones.{are_clones, clones_among}
use Rattle.sequential_winners.specs.Clones.{has_as_many, is_between}
use Rattle.sequential_winners.specs.Steps.Families.{are_apart}
use Rattle.sequential_winners.specs.Steps.Levels.{IsBelow, AreFamilies}
use Rattle.ballot_base.specs.Clones.{AreClones}
use Rattle.sequential_winners.proofs.CloneLemmas.{clones-sameness}
use Rattle.sequential_winners.proofs.Lists.{all-at, same_tests}
use Rattle.sequential_winners.proofs.Numbers.{some-passes, member-counts, within-turned}
use Rattle.sequential_winners.proofs.PairLemmas.{pairs-first, pairs-pass}
use Rattle.sequential_winners.proofs.WinnerLemmas.{many-from, below-from, any-at}

-- the two members of a list of one are the same
pub only-one : (xs : List ℕ) (c d : ℕ) → length xs ≡ 1 → has_member xs c ≡ true → has_member xs d ≡ true → c ≡ d
only-one [] c d one inside inside' = absurd (omega (arith, one))
only-one (x ∷ []) c d one inside inside' = sym (same x c inside) ∙ same x d inside'
  where
    same : (y e : ℕ) → has_member (y ∷ []) e ≡ true → y ≡ e
    same y e is = grind (arith, common_steps, cases_eq, has_member_tail)
only-one (x ∷ y ∷ xs) c d one inside inside' = absurd (omega (arith, one))

module _ (m : ℕ) (rows : List Row) (table : List (List ℕ)) (clones : AreClones m rows table) (apart : are_apart m table ≡ true) where
  no-clones : (c d : ℕ) → (1 ≤ c) × (c ≤ m) → (1 ≤ d) × (d ≤ m) → are_clones rows c d ≡ true → c ≡ d
  no-clones c d low high cd =
      let one : length (clones_among m rows c) ≡ 1 = ap length (sym (clones c low.0 low.1)) ∙ eqb-true (length (get_or table c [])) 1 (all-at (λ d. length (get_or table d []) == 1) (range_with_len 1 m) c apart (has_member-range 1 m c low.0 (omega (arith, low.1)))) in
      only-one (clones_among m rows c) c d one (among c c low ((clones-sameness rows).itself c)) (among c d high cd)
    where
      among : (a b : ℕ) → (1 ≤ b) × (b ≤ m) → are_clones rows a b ≡ true → has_member (clones_among m rows a) b ≡ true
      among a b bounds is =
          has_member-filter (are_clones rows a) (range_with_len 1 m) b ∙ ap (λ x. x && has_member (range_with_len 1 m) b) is ∙ has_member-range 1 m b bounds.0 (omega (arith, bounds.1))

  member-of : (set other : List ℕ) → IsIncreasing 1 m set → IsIncreasing 1 m other → IsBelow rows set other → (x : ℕ) → has_member set x ≡ true → has_member other x ≡ true
  member-of set other up up' below x inside =
      let t = some-passes (are_clones rows x) other (omega (arith, below x, member-counts (are_clones rows x) set x inside ((clones-sameness rows).itself x))) in
      let same : x ≡ t.0 = no-clones x t.0 (in_bounds m set x up inside) (in_bounds m other t.0 up' t.1) t.2 in
      ap (has_member other) same ∙ t.1

  -- without clones a set of k members has one committee of k, itself
  same-set : (set other : List ℕ) → IsIncreasing 1 m set → IsIncreasing 1 m other → IsBelow rows set other → length set ≡ length other → set ≡ other
  same-set set other up up' below size =
      let above = within-turned (are_clones rows) (clones-sameness rows) set other below (omega (arith, size)) in
      same_increasing 1 m set other up up' (λ n. same_tests (has_member set n) (has_member other n) (member-of set other up up' below n) (member-of other set up' up above n))

pub plain-winners : (rule : SeqRule) (e : Election) (k m : ℕ) (table leasts mosts list : List (List ℕ)) → m ≡ e.m → list ≡ leasts → AreFamilies rule e k leasts mosts → AreClones e.m e.rows table
    → are_apart m table ≡ true → list_all (λ set. length set == k) leasts ≡ true → list ≡ sequential_winners rule e k
plain-winners rule e k m table leasts mosts list is same families clones apart' sizes' =
    let all = increasing_lists 1 e.m k in
    let apart : are_apart e.m table ≡ true = subst (λ n. are_apart n table ≡ true) is apart' in
    let sizes : AllByRecursion (λ set. length set ≡ k) leasts = each leasts sizes' in
    let size = λ (set : List ℕ) (inside : Contains leasts set). All-contains (λ s. length s ≡ k) leasts set (All-from_recursion (λ s. length s ≡ k) leasts sizes) inside in
    let up = λ (set : List ℕ) (inside : Contains leasts set). All-contains (λ s. IsIncreasing 1 e.m s) leasts set (All-from_recursion (λ s. IsIncreasing 1 e.m s) leasts families.least_sets) inside in
    let has = λ (committee : List ℕ) (family : List ℕ × List ℕ). is_between e.m e.rows family.0 family.1 committee in
    same ∙ same_sorted nat_list_cmp_total leasts (sequential_winners rule e k) (families.order sizes') (sorted_from_later (sequential_winners rule e k) (sequential-later rule e k))
    (λ set inside.
    let wins = families.reached set (up set inside) (size set inside) ∙ own families set inside in
    Contains-filter (is_sequential_winner rule e k) all set (increasing_lists-contains 1 e.m k set (up set inside, size set inside)) wins)
    (λ set inside.
    let wins = passes-from_filter (is_sequential_winner rule e k) all set inside in
    let chosen = chosen-from_contains 1 e.m k set (Contains-from_filter (is_sequential_winner rule e k) all set inside) in
    let s = any-at (has set) (zip leasts mosts) (sym (families.reached set chosen.0 chosen.1) ∙ wins) in
    let least = pairs-first leasts mosts s.0 s.1 in
    let above = (and_parts (has_as_many e.m e.rows set s.0.0) (has_as_many e.m e.rows s.0.1 set) s.2).0 in
    let equal : s.0.0 ≡ set = same-set e.m e.rows table clones apart s.0.0 set (up s.0.0 least) chosen.0 (below-from e.m e.rows s.0.0 set (up s.0.0 least) above) (omega (arith, size s.0.0 least, chosen.1)) in
    subst (Contains leasts) equal least)
  where
    each : (xs : List (List ℕ)) → list_all (λ set. length set == k) xs ≡ true → AllByRecursion (λ set. length set ≡ k) xs
    each [] passes = tt
    each (x ∷ xs) passes =
        let parts = and_parts (length x == k) (list_all (λ set. length set == k) xs) passes in
        (eqb-true (length x) k parts.0, each xs parts.1)

    -- a least set is a committee of its family
    own : AreFamilies rule e k leasts mosts → (set : List ℕ) → Contains leasts set → list_any (λ family. is_between e.m e.rows family.0 family.1 set) (zip leasts mosts) ≡ true
    own families set (i, within, is) =
        let most : List ℕ = get_or mosts i [] in
        let within' : i < length mosts = omega (arith, within, families.paired) in
        let here : get_or leasts i [] ≡ set = get_or_default leasts i [] set within ∙ is in
        let spans : has_as_many e.m e.rows most set ≡ true = ap (has_as_many e.m e.rows most) (sym here) ∙ families.spans i within in
        pairs-pass (λ family. is_between e.m e.rows family.0 family.1 set) leasts mosts i set most within within'
        (λ d. sym is ∙ get_or_default leasts i set d within) (λ d. get_or_default mosts i [] d within')
        (and_from (has_as_many e.m e.rows set set) (has_as_many e.m e.rows most set) (many-from e.m e.rows set set (λ c. omega arith)) spans)
