-- What a set loses without one of its members under a Thiele rule. All these losses together are at most what the voters
-- give. If a candidate joins a winner, no member is worth less than it, since the winner could take it for the member.
use Rattle.std.proofs.Common.{◌≡◌, ℕ, zero, suc, ◌+◌, ◌*◌, ◌<◌, ◌≤◌, ◌==◌, ◌∙◌, Bool, true, false, cond, List, [], ◌∷◌, refl, ap, arith, add-one, length, take, get_or, sum, sum_by, Contains}
use Rattle.std.specs.Prelude.{nat_lt, count_by}
use Rattle.std.specs.List.{list_all}
use Rattle.std.proofs.Math.Nat.{mul-le-mul, mul-le-mul_left, mul-le-mul_right}
use Rattle.std.proofs.lemmas.Bool.{and_parts, ltb-true, or_right}
use Rattle.std.proofs.lemmas.List.Sums.{sum_by-cons}
use Rattle.std.proofs.lemmas.Nat.{mul-le}
use Rattle.ballot_base.specs.Lists.{IsIncreasing}
use Rattle.ballot_base.specs.CandSet.{has_member, with_member, without_member}
use Rattle.ballot_base.specs.Ballots.{Row, Election, hits, voter_count}
use Rattle.ballot_base.proofs.Increasing.{IsIncreasing-with_member, has_member_head, length-with_member}
use Rattle.tie_walk.specs.Sequences.{weight}
use Rattle.tie_walk.specs.Values.{thiele_value}
use Rattle.tie_walk.specs.Winners.{winners}
use Rattle.tie_walk.specs.declared.sequential.Step.TheVariants.{Grow, Shrink}
use Rattle.tie_walk.proofs.Gains.{bit, thiele-partial}
use Rattle.tie_walk.proofs.LawLemmas.{winner-is}
use Rattle.tie_walk.proofs.RowSums.{AreBallots, sum-parts}
use Rattle.tie_walk.proofs.TableLemmas.{sum-take_more}
use Rattle.tie_walk.proofs.WorthLemmas.{partial, share}
use Rattle.group_check.specs.Groups.{IsGroup, member_ballots, all_below}
use Rattle.field_laws.proofs.Exchanges.{hits-turned, hits-without, winner-joined}

-- ---- one loss

-- the last hit of those who approve x
last-hit : (b : Bool) (w : List ℕ) (h before : ℕ) → before + bit b ≡ h → sum (take h w) ≡ sum (take before w) + cond b (weight w h) 0
last-hit true w h before is =
    let place : weight w (before + 1) ≡ get_or w before 0 = ap (weight w) (add-one before) in
    omega (arith, place, ap (weight w) is, ap (λ n. sum (take n w)) is, sum-take_more w before)
last-hit false w h before is = let same : before ≡ h = omega arith in omega (arith, ap (λ n. sum (take n w)) same)

-- the value without a member, and the loss
pub value-without : (m : ℕ) (w : List ℕ) (rows : List Row) (set : List ℕ) (x : ℕ) → AreBallots m rows → has_member set x ≡ true
    → thiele_value w rows set ≡ thiele_value w rows (without_member set x) + partial Shrink w set x rows
value-without m w rows set x all here =
    sum-parts (λ (r : Row). r.1 * sum (take (hits r.0 set) w)) (λ (r : Row). r.1 * sum (take (hits r.0 (without_member set x)) w)) (λ (r : Row). r.1 * share Shrink w set x r) m rows all
    (λ r up. ap (λ n. r.1 * n) (last-hit (has_member r.0 x) w (hits r.0 set) (hits r.0 (without_member set x)) (hits-without 1 m r.0 set x up here)) ∙ omega arith)

-- ---- all losses

-- a sum over one row more
pub sums-first : (f : ℕ → Row → ℕ) (row : Row) (rows : List Row) (xs : List ℕ)
    → sum_by (λ x. sum_by (f x) (row ∷ rows)) xs ≡ sum_by (λ x. f x row) xs + sum_by (λ x. sum_by (f x) rows) xs
sums-first f row rows [] = refl
sums-first f row rows (x ∷ xs) =
    omega (
      arith,
      sum_by-cons (f x) row rows,
      sum_by-cons (λ y. sum_by (f y) (row ∷ rows)) x xs,
      sum_by-cons (λ y. f y row) x xs,
      sum_by-cons (λ y. sum_by (f y) rows) x xs,
      sums-first f row rows xs,
    )

-- a sum of nothing
pub sum-none : (xs : List ℕ) → sum_by (λ (x : ℕ). 0) xs ≡ 0
sum-none [] = refl
sum-none (x ∷ xs) = omega (arith, sum_by-cons (λ (y : ℕ). 0) x xs, sum-none xs)

-- as often the same as there are numbers that pass
pub sum-passing : (p : ℕ → Bool) (v u : ℕ) (xs : List ℕ) → sum_by (λ x. v * cond (p x) u 0) xs ≡ v * (count_by p xs * u)
sum-passing p v u [] = omega arith
sum-passing p v u (x ∷ xs) =
    let whole = ap (λ n. v * (n * u)) (sum_by-cons (λ (y : ℕ). cond (p y) 1 0) x xs) in
    omega (arith, sum-passing p v u xs, sum_by-cons (λ y. v * cond (p y) u 0) x xs, whole, at (p x) (count_by p xs))
  where
    at : (b : Bool) (n : ℕ) → v * ((cond b 1 0 + n) * u) ≡ v * cond b u 0 + v * (n * u)
    at true n = omega arith
    at false n = omega arith

-- A voter with h hits loses the h-th increment with each of h members. If that is never more than d, all losses together
-- are at most d for each voter.
losses-most : (m d : ℕ) (w : List ℕ) (rows : List Row) (set : List ℕ) → IsIncreasing 1 m set → AreBallots m rows → ((h : ℕ) → h * weight w h ≤ d)
    → sum_by (λ x. partial Shrink w set x rows) set ≤ voter_count rows * d
losses-most m d w [] set up all each = omega (arith, sum-none set)
losses-most m d w (row ∷ rows) set up all each =
    let here = sum-passing (has_member row.0) row.1 (weight w (hits row.0 set)) set in
    let hit = ap (λ n. row.1 * (n * weight w (hits row.0 set))) (hits-turned 1 m row.0 set all.0 up) in
    let most : row.1 * (hits row.0 set * weight w (hits row.0 set)) ≤ row.1 * d = mul-le-mul_left row.1 (each (hits row.0 set)) in
    let whole = ap (λ n. n * d) (sum_by-cons (λ (r : Row). r.1) row rows) in
    omega (arith, sums-first (λ x r. r.1 * share Shrink w set x r) row rows set, here, hit, most, whole, losses-most m d w rows set up all.1 each)

-- a sum is at least its least term, as often as there are terms
sum-least : (f : ℕ → ℕ) (n : ℕ) (xs : List ℕ) → ((x : ℕ) → has_member xs x ≡ true → n ≤ f x) → length xs * n ≤ sum_by f xs
sum-least f n [] each = omega arith
sum-least f n (x ∷ xs) each =
    omega (arith, each x (has_member_head x xs), sum-least f n xs (λ y is. each y (or_right (x == y) (has_member xs y) is)), sum_by-cons f x xs)

-- ---- what a group gains by a candidate that all its voters approve

-- each of the group gives at least u for a hit more
pub gain-least : (w : List ℕ) (u level : ℕ) (committee : List ℕ) (c : ℕ) (rows : List Row) (group : List ℕ) → ((h : ℕ) → h < level → u ≤ weight w (h + 1))
    → IsGroup rows group → list_all (λ ballot. has_member ballot c) (member_ballots rows group) ≡ true → all_below level committee (member_ballots rows group) ≡ true
    → sum group * u ≤ partial Grow w committee c rows
gain-least w u level committee c [] [] each is agree few = omega arith
gain-least w u level committee c [] (n ∷ group) each is agree few = absurd is
gain-least w u level committee c (row ∷ rows) [] each is agree few = absurd is
gain-least w u level committee c (row ∷ rows) (zero ∷ group) each is agree few =
    let voters = ap (λ n. n * u) (sum_by-cons (λ (x : ℕ). x) 0 group) in
    omega (arith, voters, sum_by-cons (λ (r : Row). r.1 * share Grow w committee c r) row rows, gain-least w u level committee c rows group each is.1 agree few)
gain-least w u level committee c (row ∷ rows) (suc n ∷ group) each is agree few =
    let shares = and_parts (has_member row.0 c) (list_all (λ ballot. has_member ballot c) (member_ballots rows group)) agree in
    let parts = and_parts (nat_lt (hits row.0 committee) level) (all_below level committee (member_ballots rows group)) few in
    let least : suc n * u ≤ row.1 * weight w (hits row.0 committee + 1) = mul-le-mul {n₁ = suc n} is.0 (each (hits row.0 committee) (ltb-true (hits row.0 committee) level parts.0)) in
    let here = ap (λ b. row.1 * cond b (weight w (hits row.0 committee + 1)) 0) shares.0 in
    let voters = ap (λ s. s * u) (sum_by-cons (λ (x : ℕ). x) (suc n) group) in
    omega (arith, least, here, voters, sum_by-cons (λ (r : Row). r.1 * share Grow w committee c r) row rows, gain-least w u level committee c rows group each is.1 shares.1 parts.1)

-- ---- no winner leaves a group without what it deserves

-- A group of at least level · n / k of the n voters shares a candidate outside a winner, and each of them has fewer than
-- level hits. If up to this level each hit adds at least u, and level · u is at least d, this cannot be.
pub no-group : (e : Election) (w : List ℕ) (d u k level : ℕ) (committee : List ℕ) (c : ℕ) (group : List ℕ) → AreBallots e.m e.rows → Contains (winners (thiele_value w e.rows) e.m k) committee
    → ((h : ℕ) → h * weight w h ≤ d) → ((h : ℕ) → h < level → u ≤ weight w (h + 1)) → d ≤ level * u → 1 ≤ d → 1 ≤ voter_count e.rows
    → has_member committee c ≡ false → 1 ≤ c → c ≤ e.m → IsGroup e.rows group → list_all (λ ballot. has_member ballot c) (member_ballots e.rows group) ≡ true
    → all_below level committee (member_ballots e.rows group) ≡ true → level * voter_count e.rows ≤ sum group * k → ⊥
no-group e w d u k level committee c group all wins most least enough some voters out low high is agree few large =
    let more = with_member committee c in
    let chosen = winner-is (thiele_value w e.rows) e.m k committee wins in
    let gained = gain-least w u level committee c e.rows group least is agree few in
    let each = sum-least (λ x. partial Shrink w more x e.rows) (sum group * u) more (λ x here.
    omega (
      arith,
      gained,
      thiele-partial e.m w e.rows committee c all out,
      value-without e.m w e.rows more x all here,
      winner-joined (thiele_value w e.rows) e.m k committee c x wins out low high here,
    )) in
    let size : length more * (sum group * u) ≡ (k + 1) * (sum group * u) = ap (λ n. n * (sum group * u)) (omega (arith, length-with_member committee c out, chosen.1)) in
    let lost = losses-most e.m d w e.rows more (IsIncreasing-with_member 1 e.m committee c low high chosen.0) all most in
    let exact : voter_count e.rows * d ≤ voter_count e.rows * (level * u) = mul-le-mul_left (voter_count e.rows) enough in
    let deserved : level * voter_count e.rows * u ≤ sum group * k * u = mul-le-mul_right u large in
    let nothing : sum group * u ≡ 0 = omega (arith, each, size, lost, exact, deserved) in
    let none = ap (λ n. k * n) nothing in
    let one = mul-le 1 1 (voter_count e.rows) d voters some in
    omega (arith, none, one, exact, deserved)
