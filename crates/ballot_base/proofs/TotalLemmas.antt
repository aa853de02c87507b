-- The totals of candidates, and what a ballot adds to them.
use Rattle.std.proofs.lemmas.Grind.{common_steps}
use Rattle.std.proofs.Common.{◌≡◌, ℕ, ◌+◌, ◌<◌, ◌≤◌, true, false, cond, List, [], ◌∷◌, ap, arith, length, get_or, set}
use Rattle.std.proofs.lemmas.Bool.{cases_eq}
use Rattle.ballot_base.specs.Lists.{IsIncreasing}
use Rattle.ballot_base.specs.CandSet.{has_member}
use Rattle.ballot_base.proofs.Increasing.{IsIncreasing-lower, has_member_head, has_member_tail, has_member-below}

abbrev part : List ℕ → ℕ → ℕ → ℕ
part members worth c = cond (has_member members c) worth 0

part-first : (k worth : ℕ) (rest : List ℕ) → part (k ∷ rest) worth k ≡ worth
part-first k worth rest = ap (λ b. cond b worth 0) (has_member_head k rest)

part-rest : (k last worth : ℕ) (rest : List ℕ) → IsIncreasing (k + 1) last rest → part rest worth k ≡ 0
part-rest k last worth rest up = ap (λ b. cond b worth 0) (has_member-below (k + 1) last rest k up (omega arith))

part-other : (k worth c : ℕ) (rest : List ℕ) → (k ≡ c → ⊥) → part (k ∷ rest) worth c ≡ part rest worth c
part-other k worth c rest other = ap (λ b. cond b worth 0) (has_member_tail k c rest other)

part-most : (members : List ℕ) (worth c : ℕ) → part members worth c ≤ worth
part-most members worth c = elim (has_member members c) as (λ b. cond b worth 0 ≤ worth) [ true ↦ omega arith | false ↦ omega arith ]

-- the first member has her part, and the rest is still to come
pub totals_more : (totals begun left rest members : List ℕ) (k worth last : ℕ) → left ≡ k ∷ rest → IsIncreasing 1 last left → k < length totals
    → ((c : ℕ) → get_or totals c 0 + part left worth c ≡ get_or begun c 0 + part members worth c)
    → (c : ℕ) → get_or (set totals k (get_or totals k 0 + worth)) c 0 + part rest worth c ≡ get_or begun c 0 + part members worth c
totals_more totals begun left rest members k worth last parts up inside made c =
    grind (arith, common_steps, part, cases_eq, part-rest, part-first, part-other)

-- the rest of a set is a set, and its first member is one of the candidates
pub rest-increasing : (left rest : List ℕ) (k last : ℕ) → left ≡ k ∷ rest → IsIncreasing 1 last left → (k ≤ last) × IsIncreasing 1 last rest
rest-increasing left rest k last parts up = grind (arith, common_steps, IsIncreasing-lower)

-- the next total fits
pub totals_fit : (totals begun left rest members : List ℕ) (k worth bound : ℕ) → left ≡ k ∷ rest
    → ((c : ℕ) → get_or totals c 0 + part left worth c ≡ get_or begun c 0 + part members worth c) → ((c : ℕ) → get_or begun c 0 + worth < bound)
    → get_or totals k 0 + worth < bound
totals_fit totals begun left rest members k worth bound parts made fits =
    grind (arith, common_steps, part, part-first, part-most)

pub totals_done : (totals begun left members : List ℕ) (worth : ℕ) → left ≡ []
    → ((c : ℕ) → get_or totals c 0 + part left worth c ≡ get_or begun c 0 + part members worth c) → (c : ℕ) → get_or totals c 0 ≡ get_or begun c 0 + part members worth c
totals_done totals begun left members worth none made c = grind (arith, common_steps, part)
