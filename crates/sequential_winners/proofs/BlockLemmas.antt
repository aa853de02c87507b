-- Families that lie in a block: what its two sets rule out, none of them has.
use Rattle.std.proofs.Common.{◌≡◌, ℕ, zero, suc, ◌+◌, ◌-◌, ◌<◌, ◌≤◌, ◌∙◌, Bool, true, false, List, [], refl, sym, ap, arith, inl, inr, length, take, get_or}
use Rattle.std.specs.Prelude.{nat_le}
use Rattle.std.specs.List.{list_any, zip}
use Rattle.std.proofs.lemmas.Bool.{cases_Bool, both_ways, and_parts, and_from}
use Rattle.std.proofs.lemmas.List.{get_or_default}
use Rattle.std.proofs.lemmas.List.Elements.{All-from_recursion}
use Rattle.ballot_base.specs.Lists.{IsIncreasing}
use Rattle.ballot_base.specs.CandSet.{has_member, common_members, members_upto, includes}
use Rattle.ballot_base.proofs.Increasing.{has_member-filter}
use Rattle.sequential_winners.specs.Clones.{without_clones}
use Rattle.sequential_winners.specs.Families.{Sequential}
use Rattle.sequential_winners.specs.Steps.Families.{may_be_in, IsBlock}
use Rattle.sequential_winners.specs.Steps.Levels.{AreFamilies}
use Rattle.sequential_winners.specs.declared.families.Block.{Block}
use Rattle.sequential_winners.proofs.AloneLemmas.{most-lacks, least-lacks}
use Rattle.sequential_winners.proofs.Lists.{all-fails, some-fails}
use Rattle.sequential_winners.proofs.PairLemmas.{pairs-end, pairs-more}

-- no pair passes if none at any place does
pub none-passes : {A B : Type 0} (p : A × B → Bool) (ks : List A) (vs : List B) (a : A) (b : B) → length vs ≡ length ks
    → ((i : ℕ) → i < length ks → p (get_or ks i a, get_or vs i b) ≡ false) → list_any p (zip ks vs) ≡ false
none-passes p ks vs a b paired fails = pairs-end p ks vs (length ks) (before (length ks) (omega arith)) (omega (arith, paired))
  where
    before : (n : ℕ) → n ≤ length ks → list_any p (take n (zip ks vs)) ≡ false
    before zero within = refl
    before (suc n) within =
        let next : n + 1 ≡ suc n = omega arith in
        ap (λ k. list_any p (take k (zip ks vs))) (sym next)
        ∙ pairs-more p ks vs n (get_or ks n a) (get_or vs n b) (omega (arith, within)) (omega (arith, within, paired)) (λ d. get_or_default ks n a d (omega (arith, within)))
        (λ d. get_or_default vs n b d (omega (arith, within, paired))) (before n (omega (arith, within))) (fails n (omega (arith, within)))

module _ (s : Sequential) (leasts mosts : List (List ℕ)) (families : AreFamilies s.rule s.election s.k leasts mosts) where
  pub least-up : (i : ℕ) → i < length leasts → IsIncreasing 1 s.election.m (get_or leasts i [])
  least-up i inside = All-from_recursion (λ x. IsIncreasing 1 s.election.m x) leasts families.least_sets i [] inside

  pub most-up : (i : ℕ) → i < length leasts → IsIncreasing 1 s.election.m (get_or mosts i [])
  most-up i inside = All-from_recursion (λ x. IsIncreasing 1 s.election.m x) mosts families.most_sets i [] (omega (arith, inside, families.paired))

  module _ (c : ℕ) (set : List ℕ) (within : c ≤ s.election.m) (up : IsIncreasing 1 c set) (start : ℕ) (block : Block) (is-block : IsBlock leasts mosts start block) (i : ℕ) (from : start ≤ i) (before : i < start + 64) (inside : i < length leasts) where
    abbrev alone : List ℕ
    alone = without_clones s.election.m s.election.rows

    pub most-skips : includes block.in_some (common_members set alone) ≡ false → may_be_in s.election.m s.election.rows c set (s.k - length set) (get_or leasts i [], get_or mosts i []) ≡ false
    most-skips lacks =
        let asked = common_members set alone in
        let x = some-fails (has_member block.in_some) asked lacks in
        most-lacks s.election.m s.election.rows c set (s.k - length set) (get_or leasts i [], get_or mosts i []) within up (least-up i inside) (most-up i inside)
        (all-fails (has_member (get_or mosts i [])) asked x.0 x.1 (elim (cases_Bool (has_member (get_or mosts i []) x.0)) [
          | inl has ↦ absurd (both_ways (has_member block.in_some x.0) x.2 ((is-block i from before inside x.0).1 has))
          | inr none ↦ none
        ]))

    pub least-skips : includes set (members_upto (common_members block.in_all alone) c) ≡ false → may_be_in s.election.m s.election.rows c set (s.k - length set) (get_or leasts i [], get_or mosts i []) ≡ false
    least-skips lacks =
        let least = get_or leasts i [] in
        let asked = common_members block.in_all alone in
        let own = common_members least alone in
        let x = some-fails (has_member set) (members_upto asked c) lacks in
        let parts = and_parts (nat_le x.0 c) (has_member asked x.0) (sym (has_member-filter (λ n. nat_le n c) asked x.0) ∙ x.1) in
        let both = and_parts (has_member alone x.0) (has_member block.in_all x.0) (sym (has_member-filter (has_member alone) block.in_all x.0) ∙ parts.1) in
        let mine : has_member own x.0 ≡ true = has_member-filter (has_member alone) least x.0 ∙ and_from (has_member alone x.0) (has_member least x.0) both.0 ((is-block i from before inside x.0).0 both.1) in
        let here : has_member (members_upto own c) x.0 ≡ true = has_member-filter (λ n. nat_le n c) own x.0 ∙ and_from (nat_le x.0 c) (has_member own x.0) parts.0 mine in
        least-lacks s.election.m s.election.rows c set (s.k - length set) (least, get_or mosts i []) within up (least-up i inside) (most-up i inside)
        (all-fails (has_member set) (members_upto own c) x.0 here x.2)
