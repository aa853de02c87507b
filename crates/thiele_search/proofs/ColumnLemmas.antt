-- Sums over the voters of a block, bit by bit.
use Rattle.std.proofs.Common.{◌≡◌, ℕ, zero, suc, ◌+◌, ◌-◌, ◌*◌, ◌/◌, ◌%◌, ◌^◌, ◌<◌, ◌≤◌, ◌==◌, ◌∙◌, Bool, true, false, cond, min, nat_lt, ◌&&◌, set, take, drop, replicate, slice_get, Some, List, [], ◌∷◌, ◌++◌, refl, sym, ap, subst, arith, inl, inr, length, sum_by, get_or, add-one, length-append, bit_and, bit_or, w64}
use Rattle.std.specs.Int.{bit_at, bit_not}
use Rattle.std.specs.Int.RustNames.{count_ones}
use Rattle.std.proofs.Math.Nat.{mul-le-mul}
use Rattle.std.proofs.lemmas.Bool.{cases_eq, cases_lt, cases_order, eq-eqb, ne_eqb, lt-ltb, le-ltb}
use Rattle.std.proofs.lemmas.List.{append-nil, append_assoc, take_more, take-append-drop, get_or-set_same, get_or-set_other, length-replicate}
use Rattle.std.proofs.lemmas.Option.{get_or_from_slice_get, slice_get_within}
use Rattle.std.proofs.lemmas.List.Sums.{sum_by-append, sum_by-cons}
use Rattle.std.proofs.lemmas.Nat.{and_le_l, and_le_r, mod_below, mod-pow-add, ones_cat}
use Rattle.std.proofs.lemmas.Nat.Bits.{bit_at-lt, bit_at-zero, bit_at-suc, bit_at_lowest, bit_at_and, bit_at_or, bit_at_not}
use Rattle.ballot_base.specs.Limits.{most_candidates}
use Rattle.ballot_base.specs.Lists.{IsIncreasing}
use Rattle.ballot_base.specs.CandSet.{has_member}
use Rattle.ballot_base.specs.Ballots.{Row, hits, voter_count}
use Rattle.ballot_base.specs.Increments.{increments}
use Rattle.ballot_base.proofs.FirstMember.{ones_bit}
use Rattle.ballot_base.proofs.Increasing.{IsIncreasing-higher}
use Rattle.std.specs.List.{AllByRecursion}
use Rattle.tie_walk.specs.Sequences.{gain, weight, supporters}
use Rattle.tie_walk.specs.Values.{Thiele}
use Rattle.row_multipliers.proofs.HitLemmas.{hits-turned}
use Rattle.row_multipliers.proofs.MemberLemmas.{first-gone, first-in, others-same}
use Rattle.row_multipliers.proofs.SearchLemmas.{rest-increasing}
use Rattle.thiele_search.specs.Steps.Columns.{block_voters, total, shared, voter_ballot, given, approves_some, word_before, IsBlock, AreByHits, AreColumns, AreColumnsOf, AreRising, voters_of}

-- ---- sums over the first numbers

pub total-same : (f g : ℕ → ℕ) (n : ℕ) → ((i : ℕ) → i < n → f i ≡ g i) → total f n ≡ total g n
unfolding total
total-same f g zero same = refl
total-same f g (suc n) same =
    omega (arith, same 0 (omega arith), total-same (λ i. f (suc i)) (λ i. g (suc i)) n (λ i low. same (suc i) (omega (arith, low))))

pub total-zero : (f : ℕ → ℕ) → total f 0 ≡ 0
unfolding total
total-zero f = refl

pub total-plus : (f g : ℕ → ℕ) (n : ℕ) → total (λ i. f i + g i) n ≡ total f n + total g n
unfolding total
total-plus f g zero = refl
total-plus f g (suc n) = omega (arith, total-plus (λ i. f (suc i)) (λ i. g (suc i)) n)

pub total-times : (w : ℕ) (f : ℕ → ℕ) (n : ℕ) → total (λ i. w * f i) n ≡ w * total f n
unfolding total
total-times w f zero = omega arith
total-times w f (suc n) =
    let spread : w * (f 0 + total (λ i. f (suc i)) n) ≡ w * f 0 + w * total (λ i. f (suc i)) n = omega arith in
    omega (arith, spread, total-times w (λ i. f (suc i)) n)

pub total-none : (n : ℕ) → total (λ i. 0) n ≡ 0
unfolding total
total-none zero = refl
total-none (suc n) = omega (arith, total-none n)

pub total-most : (f : ℕ → ℕ) (most n : ℕ) → ((i : ℕ) → f i ≤ most) → total f n ≤ n * most
unfolding total
total-most f most zero small = omega arith
total-most f most (suc n) small =
    let spread : suc n * most ≡ n * most + most = omega arith in
    omega (arith, spread, small 0, total-most (λ i. f (suc i)) most n (λ i. small (suc i)))

pub total-add : (f : ℕ → ℕ) (a b : ℕ) → total f (a + b) ≡ total f a + total (λ i. f (a + i)) b
unfolding total
total-add f zero b =
    let e : 0 + b ≡ b = omega arith in
    omega (arith, ap (total f) e, total-same f (λ i. f (0 + i)) b (λ i low. ap f (let z : i ≡ 0 + i = omega arith in z)))
total-add f (suc a) b =
    let e : suc a + b ≡ suc (a + b) = omega arith in
    omega (
      arith,
      ap (total f) e,
      total-add (λ i. f (suc i)) a b,
      total-same (λ i. f (suc (a + i))) (λ i. f (suc a + i)) b (λ i low. ap f (let z : suc (a + i) ≡ suc a + i = omega arith in z)),
    )

-- a number more
pub total-last : (f : ℕ → ℕ) (n : ℕ) → total f (n + 1) ≡ total f n + f n
unfolding total
total-last f n = omega (arith, total-add f n 1, ap f (let z : n + 0 ≡ n = omega arith in z))

-- the sum over all voters, and over so many places that all have one
pub total-voters : (f : List ℕ → ℕ) → f [] ≡ 0 → (ballots : List (List ℕ)) (n : ℕ) → length ballots ≤ n
    → total (λ v. f (voter_ballot ballots v)) n ≡ sum_by f ballots
unfolding total
total-voters f none [] n few = total-same (λ v. f []) (λ v. 0) n (λ i low. none) ∙ total-none n
total-voters f none (ballot ∷ ballots) zero few = absurd (omega (arith, few))
total-voters f none (ballot ∷ ballots) (suc n) few =
    omega (arith, total-voters f none ballots n (omega (arith, few)), sum_by-cons f ballot ballots)

-- ---- bits

ones-low : (k n : ℕ) → count_ones (n % 2 ^ k) ≡ total (bit_at n) k
unfolding total
ones-low zero n =
    let e : n % 2 ^ 0 ≡ 0 = omega (arith, mod_below n 1 (omega arith)) in ap count_ones e ∙ ones_bit 0 (omega arith)
ones-low (suc k) n =
    let split : n % 2 ^ (suc k) ≡ (n / 2 % 2 ^ k) * 2 ^ 1 + n % 2 =
    subst (λ j. n % 2 ^ j ≡ (n / 2 % 2 ^ k) * 2 ^ 1 + n % 2) (add-one k) (mod-pow-add n k 1) in
    let low : n % 2 < 2 = mod_below n 2 (omega arith) in
    let rest : count_ones (n / 2 % 2 ^ k) ≡ total (λ i. bit_at n (suc i)) k =
    ones-low k (n / 2) ∙ total-same (bit_at (n / 2)) (λ i. bit_at n (suc i)) k (λ i h. sym (bit_at-suc n i)) in
    ap count_ones split ∙ ones_cat 1 (n / 2 % 2 ^ k) (n % 2) low
    ∙ omega (arith, ones_bit (n % 2) low, rest, bit_at_lowest n)

-- how many bits a word has
pub ones-total : (n : ℕ) → n < 2 ^ 64 → count_ones n ≡ total (bit_at n) block_voters
ones-total n small = ap count_ones (let e : n ≡ n % 2 ^ 64 = omega (arith, small) in e) ∙ ones-low 64 n

pub ones-most : (n : ℕ) → n < 2 ^ 64 → count_ones n ≤ 64
ones-most n small =
    omega (arith, ones-total n small, total-most (bit_at n) 1 64 (λ i. let h : bit_at n i < 2 = bit_at-lt n i in omega (arith, h)))

pub and-fits : (a b : ℕ) → b < 2 ^ 64 → bit_and a b < 2 ^ 64
and-fits a b small = omega (arith, and_le_r a b, small)

pub ones-and : (a b : ℕ) → b < 2 ^ 64 → count_ones (bit_and a b) ≤ 64
ones-and a b small = ones-most (bit_and a b) (and-fits a b small)

-- what the voters whom two words share give
pub shares-few : (weight a b most : ℕ) → weight ≤ most → b < 2 ^ 64 → weight * count_ones (bit_and a b) ≤ most * 64
shares-few weight a b most small fits = mul-le-mul small (ones-and a b fits)

-- how many bits two words have in common
pub ones-common : (a b : ℕ) → a < 2 ^ 64 → count_ones (bit_and a b) ≡ total (λ i. min (bit_at a i) (bit_at b i)) block_voters
ones-common a b small =
    ones-total (bit_and a b) (omega (arith, and_le_l a b, small))
    ∙ total-same (bit_at (bit_and a b)) (λ i. min (bit_at a i) (bit_at b i)) block_voters (λ i low. bit_at_and a b i)

-- ---- hits

-- a member more on the list is a hit more where the ballot approves it
pub hits-first : (ballot left rest : List ℕ) (first : ℕ) → IsIncreasing 1 most_candidates ballot → IsIncreasing 1 most_candidates left → left ≡ first ∷ rest
    → hits ballot left ≡ cond (has_member ballot first) 1 0 + hits ballot rest
hits-first ballot left rest first up rises is =
    omega (
      arith,
      hits-turned most_candidates ballot left up rises,
      ap (sum_by (λ n. cond (has_member ballot n) 1 0)) is,
      sum_by-cons (λ n. cond (has_member ballot n) 1 0) first rest,
      hits-turned most_candidates ballot rest up (rest-increasing most_candidates left rest first is rises).1,
    )

-- the words after a member more
pub hit-moves : (p : Bool) (words : List ℕ) (h i all left rest approving : ℕ) → left ≡ cond p 1 0 + rest → left ≤ all
    → bit_at approving i ≡ cond p 1 0
    → ((j : ℕ) → j ≤ h → bit_at (get_or words j 0) i ≡ cond (all == j + left) 1 0)
    → cond (bit_at approving i == 1) (bit_at (word_before words h) i) (bit_at (get_or words h 0) i) ≡ cond (all == h + rest) 1 0
hit-moves false words h i all left rest approving more most bit counted =
    ap (λ b. cond (b == 1) (bit_at (word_before words h) i) (bit_at (get_or words h 0) i)) bit
    ∙ counted h (omega arith)
    ∙ ap (λ n. cond (all == n) 1 0) (let e : h + left ≡ h + rest = omega (arith, more) in e)
hit-moves true words zero i all left rest approving more most bit counted =
    ap (λ b. cond (b == 1) (bit_at 0 i) (bit_at (get_or words 0 0) i)) bit
    ∙ bit_at-zero i
    ∙ sym (ap (λ b. cond b 1 0) (ne_eqb all (0 + rest) (λ e. absurd (omega (arith, e, more, most)))))
hit-moves true words (suc h) i all left rest approving more most bit counted =
    ap (λ b. cond (b == 1) (bit_at (get_or words h 0) i) (bit_at (get_or words (suc h) 0) i)) bit
    ∙ counted h (omega arith)
    ∙ ap (λ n. cond (all == n) 1 0) (let e : h + left ≡ suc h + rest = omega (arith, more) in e)

-- who approves a member, after a member more
pub cover-grows : (p : Bool) (before approving i all left rest : ℕ) → left ≡ cond p 1 0 + rest → left ≤ all
    → bit_at approving i ≡ cond p 1 0 → bit_at before i ≡ cond (all == left) 0 1
    → bit_at (bit_or before approving) i ≡ cond (all == rest) 0 1
cover-grows false before approving i all left rest more most bit counted =
    bit_at_or before approving i
    ∙ omega (arith, bit, counted, ap (λ n. cond {A = ℕ} (all == n) 0 1) (let e : left ≡ rest = omega (arith, more) in e))
cover-grows true before approving i all left rest more most bit counted =
    bit_at_or before approving i
    ∙ omega (
      arith,
      bit,
      let low : bit_at before i < 2 = bit_at-lt before i in low,
      ap (λ b. cond {A = ℕ} b 0 1) (ne_eqb all rest (λ e. absurd (omega (arith, e, more, most)))),
    )

-- ---- what a block gives

-- what a voter gives where the hits are below h
abbrev pub given_below : List ℕ → List ℕ → ℕ → ℕ → List ℕ → ℕ
given_below weights set c h ballot = cond (has_member ballot c) (cond (nat_lt (hits ballot set) h) (get_or weights (hits ballot set) 0) 0) 0

one-more : (p : Bool) (x h : ℕ) (w : List ℕ)
    → cond p (cond (nat_lt x (h + 1)) (get_or w x 0) 0) 0 ≡ cond p (cond (nat_lt x h) (get_or w x 0) 0) 0 + get_or w h 0 * min (cond p 1 0) (cond (x == h) 1 0)
one-more false x h w =
    let e : get_or w h 0 * min (cond {A = ℕ} false 1 0) (cond (x == h) 1 0) ≡ get_or w h 0 * 0 = ap (λ n. get_or w h 0 * n) (none (x == h)) in
    omega (arith, e)
  where
    none : (q : Bool) → min 0 (cond {A = ℕ} q 1 0) ≡ 0
    none true = refl
    none false = refl
one-more true x h w = elim (cases_order x h) [
  | inl same ↦ omega (
    arith,
    ap (λ b. cond b (get_or w x 0) 0) (lt-ltb x (h + 1) (omega (arith, same))),
    ap (λ b. cond b (get_or w x 0) 0) (le-ltb x h (omega (arith, same))),
    ap (λ b. get_or w h 0 * min 1 (cond b 1 0)) (eq-eqb x h same),
    ap (λ n. get_or w n 0) same,
  )
  | inr (inl below) ↦ omega (
    arith,
    ap (λ b. cond b (get_or w x 0) 0) (lt-ltb x (h + 1) (omega (arith, below))),
    ap (λ b. cond b (get_or w x 0) 0) (lt-ltb x h below),
    ap (λ b. get_or w h 0 * min 1 (cond b 1 0)) (ne_eqb x h (λ e. absurd (omega (arith, e, below)))),
  )
  | inr (inr above) ↦ omega (
    arith,
    ap (λ b. cond b (get_or w x 0) 0) (le-ltb x (h + 1) (omega (arith, above))),
    ap (λ b. cond b (get_or w x 0) 0) (le-ltb x h (omega (arith, above))),
    ap (λ b. get_or w h 0 * min 1 (cond b 1 0)) (ne_eqb x h (λ e. absurd (omega (arith, e, above)))),
  )
]

module _ (ballot_at : ℕ → List ℕ) (block : List ℕ) (holds : IsBlock ballot_at block) (weights set : List ℕ) (c : ℕ) where
  pub given-begin : total (λ i. given_below weights set c 0 (ballot_at i)) block_voters ≡ 0
  given-begin =
      total-same (λ i. given_below weights set c 0 (ballot_at i)) (λ i. 0) block_voters (λ i low. nothing (has_member (ballot_at i) c) (hits (ballot_at i) set))
      ∙ total-none block_voters
    where
      nothing : (p : Bool) (x : ℕ) → cond p (cond (nat_lt x 0) (get_or weights x 0) 0) 0 ≡ 0
      nothing false x = refl
      nothing true x = ap (λ b. cond b (get_or weights x 0) 0) (le-ltb x 0 (omega arith))

  -- the voters with one number of hits more
  pub given-more : (words : List ℕ) (h levels : ℕ) → AreByHits ballot_at set levels words → h < levels
      → total (λ i. given_below weights set c (h + 1) (ballot_at i)) block_voters
      ≡ total (λ i. given_below weights set c h (ballot_at i)) block_voters + get_or weights h 0 * shared (get_or block c 0) (get_or words h 0)
  given-more words h levels counted low =
      total-same (λ i. given_below weights set c (h + 1) (ballot_at i)) (λ i. given_below weights set c h (ballot_at i) + get_or weights h 0 * common i) block_voters here
      ∙ total-plus (λ i. given_below weights set c h (ballot_at i)) (λ i. get_or weights h 0 * common i) block_voters
      ∙ ap (λ n. total (λ i. given_below weights set c h (ballot_at i)) block_voters + n)
      (total-times (get_or weights h 0) common block_voters)
    where
      common : ℕ → ℕ
      common i = min (bit_at (get_or block c 0) i) (bit_at (get_or words h 0) i)

      here : (i : ℕ) → i < block_voters → given_below weights set c (h + 1) (ballot_at i) ≡ given_below weights set c h (ballot_at i) + get_or weights h 0 * common i
      here i within =
          one-more (has_member (ballot_at i) c) (hits (ballot_at i) set) h weights
          ∙ ap (λ n. given_below weights set c h (ballot_at i) + get_or weights h 0 * n)
          (sym (ap (λ n. min n (bit_at (get_or words h 0) i)) (holds.approves c i within) ∙ ap (λ n. min (cond (has_member (ballot_at i) c) 1 0) n) (counted h i low within)))

  -- the voters with so many hits and fewer
  pub given-sum : (words : List ℕ) (levels n : ℕ) → AreByHits ballot_at set levels words → n ≤ levels
      → total (λ h. get_or weights h 0 * shared (get_or block c 0) (get_or words h 0)) n
      ≡ total (λ i. given_below weights set c n (ballot_at i)) block_voters
  given-sum words levels zero counted most =
      total-zero (λ h. get_or weights h 0 * shared (get_or block c 0) (get_or words h 0)) ∙ sym given-begin
  given-sum words levels (suc n) counted most =
      let f : ℕ → ℕ = λ h. get_or weights h 0 * shared (get_or block c 0) (get_or words h 0) in
      ap (total f) (sym (add-one n)) ∙ total-last f n
      ∙ ap (λ x. x + f n) (given-sum words levels n counted (omega (arith, most)))
      ∙ sym (given-more words n levels counted (omega (arith, most)))
      ∙ ap (λ h. total (λ i. given_below weights set c h (ballot_at i)) block_voters) (add-one n)

  pub given-whole : (levels : ℕ)
      → ((i : ℕ) → i < block_voters → levels ≤ hits (ballot_at i) set → get_or weights (hits (ballot_at i) set) 0 ≡ 0)
      → total (λ i. given_below weights set c levels (ballot_at i)) block_voters ≡ total (λ i. given weights set c (ballot_at i)) block_voters
  given-whole levels end =
      total-same (λ i. given_below weights set c levels (ballot_at i)) (λ i. given weights set c (ballot_at i)) block_voters
      (λ i low. ap (λ n. cond (has_member (ballot_at i) c) n 0) (all (hits (ballot_at i) set) (end i low)))
    where
      all : (x : ℕ) → (levels ≤ x → get_or weights x 0 ≡ 0) → cond (nat_lt x levels) (get_or weights x 0) 0 ≡ get_or weights x 0
      all x none = elim (cases_lt x levels) [
        | inl below ↦ ap (λ b. cond b (get_or weights x 0) 0) (lt-ltb x levels below)
        | inr above ↦ ap (λ b. cond b (get_or weights x 0) 0) (le-ltb x levels above) ∙ sym (none above)
      ]

-- only those with no hit give, if only the first hit counts
first-only : (p : Bool) (x : ℕ) (w : List ℕ) → ((j : ℕ) → 1 ≤ j → get_or w j 0 ≡ 0)
    → get_or w 0 0 * min (cond p 1 0) (1 - cond (x == 0) 0 1) ≡ cond p (get_or w x 0) 0
first-only false x w end =
    let none : min 0 (1 - cond {A = ℕ} (x == 0) 0 1) ≡ 0 = omega arith in
    omega (arith, ap (λ n. get_or w 0 0 * n) none)
first-only true zero w end = omega arith
first-only true (suc x) w end =
    let hit : cond {A = ℕ} (suc x == 0) 0 1 ≡ 1 = ap (λ b. cond {A = ℕ} b 0 1) (ne_eqb (suc x) 0 (λ e. absurd (omega (arith, e)))) in
    let none : min 1 (1 - cond {A = ℕ} (suc x == 0) 0 1) ≡ 0 = omega (arith, hit) in
    omega (arith, ap (λ n. get_or w 0 0 * n) none, end (suc x) (omega arith))

pub given-first : (ballot_at : ℕ → List ℕ) (block : List ℕ) → IsBlock ballot_at block → (weights set : List ℕ) (c covered : ℕ) → covered < 2 ^ 64
    → ((i : ℕ) → i < block_voters → bit_at covered i ≡ cond (hits (ballot_at i) set == 0) 0 1) → ((j : ℕ) → 1 ≤ j → get_or weights j 0 ≡ 0)
    → get_or weights 0 0 * shared (get_or block c 0) (bit_not w64 covered) ≡ total (λ i. given weights set c (ballot_at i)) block_voters
given-first ballot_at block holds weights set c covered fits some end =
    sym (total-times (get_or weights 0 0) common block_voters)
    ∙ total-same (λ i. get_or weights 0 0 * common i) (λ i. given weights set c (ballot_at i)) block_voters here
  where
    common : ℕ → ℕ
    common i = min (bit_at (get_or block c 0) i) (bit_at (bit_not w64 covered) i)

    here : (i : ℕ) → i < block_voters → get_or weights 0 0 * common i ≡ given weights set c (ballot_at i)
    here i within =
        ap (λ n. get_or weights 0 0 * n) (ap (λ n. min n (bit_at (bit_not w64 covered) i)) (holds.approves c i within)
        ∙ ap (λ n. min (cond (has_member (ballot_at i) c) 1 0) n) (bit_at_not w64 covered i fits within ∙ ap (λ n. 1 - n) (some i within)))
        ∙ first-only (has_member (ballot_at i) c) (hits (ballot_at i) set) weights end

-- ---- one candidate after another

module _ (gains after left rest : List ℕ) (first x : ℕ) (is : left ≡ first ∷ rest) (up : IsIncreasing 1 most_candidates left)
    (is_set : (n : ℕ) → get_or after n 0 ≡ cond (n == first) (get_or gains first 0 + x) (get_or gains n 0)) where
  set-here : (c : ℕ) → c ≡ first → get_or after c 0 ≡ get_or gains c 0 + x
  set-here c here = is_set c ∙ ap (λ b. cond b (get_or gains first 0 + x) (get_or gains c 0)) (eq-eqb c first here) ∙ ap (λ j. get_or gains j 0 + x) (sym here)

  set-other : (c : ℕ) → (c ≡ first → ⊥) → get_or after c 0 ≡ get_or gains c 0
  set-other c other = is_set c ∙ ap (λ b. cond b (get_or gains first 0 + x) (get_or gains c 0)) (ne_eqb c first other)

  -- one of those who are left has got its part
  pub one-added : (c wanted : ℕ) (part : ℕ → ℕ) → x ≡ part first → get_or gains c 0 + cond (has_member left c) (part c) 0 ≡ wanted
      → get_or after c 0 + cond (has_member rest c) (part c) 0 ≡ wanted
  one-added c wanted part more before = elim (cases_eq c first) [
    | inl here ↦ omega (
      arith,
      before,
      more,
      set-here c here,
      ap part here,
      ap (λ b. cond b (part c) 0) (ap (has_member left) here ∙ first-in left rest first is up),
      ap (λ b. cond b (part c) 0) (ap (has_member rest) here ∙ first-gone left rest first is up),
    )
    | inr other ↦ omega (arith, before, set-other c other, ap (λ b. cond b (part c) 0) (others-same left rest first is up c other))
  ]

  pub one-most : (c begun most : ℕ) → x ≤ most → get_or gains c 0 ≤ begun + cond (has_member left c) 0 most
      → get_or after c 0 ≤ begun + cond (has_member rest c) 0 most
  one-most c begun most small before = elim (cases_eq c first) [
    | inl here ↦ omega (
      arith,
      before,
      small,
      set-here c here,
      ap (λ b. cond b 0 most) (ap (has_member left) here ∙ first-in left rest first is up),
      ap (λ b. cond b 0 most) (ap (has_member rest) here ∙ first-gone left rest first is up),
    )
    | inr other ↦ omega (arith, before, set-other c other, ap (λ b. cond b 0 most) (others-same left rest first is up c other))
  ]

-- the voters of a block who approve a member are those who have some hit
pub ones-some : (word : ℕ) (set : List ℕ) (ballot_at : ℕ → List ℕ) → word < 2 ^ 64
    → ((i : ℕ) → i < block_voters → bit_at word i ≡ cond (hits (ballot_at i) set == 0) 0 1)
    → count_ones word ≡ total (λ i. approves_some set (ballot_at i)) block_voters
ones-some word set ballot_at fits some =
    ones-total word fits
    ∙ total-same (bit_at word) (λ i. approves_some set (ballot_at i)) block_voters (λ i low. some i low ∙ once (hits (ballot_at i) set))
  where
    once : (x : ℕ) → cond (x == 0) 0 1 ≡ min x 1
    once zero = refl
    once (suc x) = omega (arith, ap (λ b. cond {A = ℕ} b 0 1) (ne_eqb (suc x) 0 (λ e. absurd (omega (arith, e)))))

-- ---- voters one after another

pub ballot-push : (ballots : List (List ℕ)) (ballot : List ℕ) (v : ℕ) → voter_ballot (ballots ++ ballot ∷ []) v ≡ cond (v == length ballots) ballot (voter_ballot ballots v)
ballot-push [] ballot zero = refl
ballot-push [] ballot (suc v) = sym (ap (λ b. cond b ballot []) (ne_eqb (suc v) 0 (λ e. absurd (omega (arith, e)))))
ballot-push (first ∷ ballots) ballot zero = sym (ap (λ b. cond b ballot first) (ne_eqb 0 (suc (length ballots)) (λ e. absurd (omega (arith, e)))))
ballot-push (first ∷ ballots) ballot (suc v) =
    ballot-push ballots ballot v ∙ ap (λ b. cond b ballot (voter_ballot ballots v)) (elim (cases_eq v (length ballots)) [
      | inl same ↦ eq-eqb v (length ballots) same ∙ sym (eq-eqb (suc v) (suc (length ballots)) (omega (arith, same)))
      | inr other ↦ ne_eqb v (length ballots) other ∙ sym (ne_eqb (suc v) (suc (length ballots)) (λ e. other (omega (arith, e))))
    ])

pub columns-push : (ballots blocks : List (List ℕ)) (block ballot : List ℕ) (b place : ℕ) → length ballots ≡ b * 64 + place → place < 64 → b < length blocks
    → AreColumns ballots blocks
    → ((c i : ℕ) → i < block_voters → bit_at (get_or block c 0) i ≡ cond ((i == place) && has_member ballot c) 1 (bit_at (get_or (get_or blocks b []) c 0) i))
    → AreColumns (ballots ++ ballot ∷ []) (set blocks b block)
columns-push ballots blocks block ballot b place long low within before new b' c i within' =
    elim (cases_eq b' b) [
      | inl here ↦
          ap (λ j. bit_at (get_or (get_or (set blocks b block) j []) c 0) i) here
          ∙ ap (λ l. bit_at (get_or l c 0) i) (get_or-set_same blocks b block [] within)
          ∙ new c i within'
          ∙ elim (cases_eq i place) [
            | inl at ↦
                ap (λ p. cond (p && has_member ballot c) 1 (bit_at (get_or (get_or blocks b []) c 0) i)) (eq-eqb i place at)
                ∙ ap (λ n. cond (has_member ballot c) 1 n) (before b c i within' ∙ ap (λ l. cond (has_member l c) 1 0) (past ballots (b * 64 + i) (omega (arith, at, long))))
                ∙ sym (ap (λ l. cond (has_member l c) 1 0) (ballot-push ballots ballot (b' * 64 + i) ∙ ap (λ p. cond p ballot (voter_ballot ballots (b' * 64 + i))) (eq-eqb (b' * 64 + i) (length ballots) (omega (arith, at, long, here)))))
            | inr other ↦
                ap (λ p. cond (p && has_member ballot c) 1 (bit_at (get_or (get_or blocks b []) c 0) i)) (ne_eqb i place other)
                ∙ before b c i within'
                ∙ ap (λ j. cond (has_member (voter_ballot ballots (j * 64 + i)) c) 1 0) (sym here)
                ∙ sym (ap (λ l. cond (has_member l c) 1 0) (ballot-push ballots ballot (b' * 64 + i) ∙ ap (λ p. cond p ballot (voter_ballot ballots (b' * 64 + i))) (ne_eqb (b' * 64 + i) (length ballots) (λ e. other (omega (arith, e, long, here))))))
          ]
      | inr other ↦
          ap (λ l. bit_at (get_or l c 0) i) (get_or-set_other blocks b b' block [] other)
          ∙ before b' c i within'
          ∙ sym (ap (λ l. cond (has_member l c) 1 0) (ballot-push ballots ballot (b' * 64 + i) ∙ ap (λ p. cond p ballot (voter_ballot ballots (b' * 64 + i))) (ne_eqb (b' * 64 + i) (length ballots) (λ e. other (omega (arith, e, long, low, within'))))))
    ]
  where
    past : (ballots : List (List ℕ)) (v : ℕ) → length ballots ≤ v → voter_ballot ballots v ≡ []
    past [] v most = refl
    past (ballot ∷ ballots) zero most = absurd (omega (arith, most))
    past (ballot ∷ ballots) (suc v) most = past ballots v (omega (arith, most))

-- ---- the voters of rows

pub voters-append : (xs ys : List Row) → voters_of (xs ++ ys) ≡ voters_of xs ++ voters_of ys
voters-append [] ys = refl
voters-append (row ∷ xs) ys = ap (λ l. replicate row.1 row.0 ++ l) (voters-append xs ys) ∙ sym (append_assoc (replicate row.1 row.0) (voters_of xs) (voters_of ys))

pub voters-length : (rows : List Row) → length (voters_of rows) ≡ voter_count rows
voters-length [] = refl
voters-length (row ∷ rows) =
    omega (
      arith,
      length-append (replicate row.1 row.0) (voters_of rows),
      length-replicate row.1 row.0,
      voters-length rows,
      sum_by-cons (λ (r : Row). r.1) row rows,
    )

-- the voters of one row more
pub voters-push : (rows : List Row) (i : ℕ) (row : Row) → slice_get rows i ≡ Some row → voters_of (take (i + 1) rows) ≡ voters_of (take i rows) ++ replicate row.1 row.0
voters-push rows i row at =
    ap voters_of (take_more rows i row (slice_get_within rows i row at) ∙ ap (λ (r : Row). take i rows ++ r ∷ []) (get_or_from_slice_get rows i row row at)) ∙ voters-append (take i rows) (row ∷ []) ∙ ap (λ l. voters_of (take i rows) ++ l) (append-nil (replicate row.1 row.0))

sum-replicate : (f : List ℕ → ℕ) (n : ℕ) (ballot : List ℕ) → sum_by f (replicate n ballot) ≡ n * f ballot
sum-replicate f zero ballot = omega arith
sum-replicate f (suc n) ballot =
    let spread : suc n * f ballot ≡ n * f ballot + f ballot = omega arith in
    omega (arith, spread, sum-replicate f n ballot, sum_by-cons f ballot (replicate n ballot))

pub voters-sum : (f : List ℕ → ℕ) (rows : List Row) → sum_by f (voters_of rows) ≡ sum_by (λ (r : Row). r.1 * f r.0) rows
voters-sum f [] = refl
voters-sum f (row ∷ rows) =
    omega (
      arith,
      sum_by-append f (replicate row.1 row.0) (voters_of rows),
      sum-replicate f row.1 row.0,
      voters-sum f rows,
      sum_by-cons (λ (r : Row). r.1 * f r.0) row rows,
    )

-- what all supporters give is the gain
pub gain-given : (weights increments' set : List ℕ) (c : ℕ) → ((j : ℕ) → get_or weights j 0 ≡ get_or increments' j 0) → (rows : List Row)
    → sum_by (λ (r : Row). r.1 * given weights set c r.0) rows ≡ gain increments' rows set c
gain-given weights increments' set c are [] = refl
gain-given weights increments' set c are (row ∷ rows) =
    sum_by-cons (λ (r : Row). r.1 * given weights set c r.0) row rows
    ∙ ap (λ n. row.1 * given weights set c row.0 + n) (gain-given weights increments' set c are rows)
    ∙ here (has_member row.0 c)
  where
    one : weight increments' (hits row.0 set + 1) ≡ get_or weights (hits row.0 set) 0
    one = ap (weight increments') (add-one (hits row.0 set)) ∙ sym (are (hits row.0 set))

    here : (b : Bool) → row.1 * cond b (get_or weights (hits row.0 set) 0) 0 + gain increments' rows set c
        ≡ sum_by (λ (r : Row). r.1 * weight increments' (hits r.0 set + 1)) (cond b (row ∷ supporters rows c) (supporters rows c))
    here true =
        ap (λ n. row.1 * n + gain increments' rows set c) (sym one)
        ∙ sym (sum_by-cons (λ (r : Row). r.1 * weight increments' (hits r.0 set + 1)) row (supporters rows c))
    here false = let e : row.1 * 0 + gain increments' rows set c ≡ gain increments' rows set c = omega arith in e

-- the ballots of voters are ballots of rows
rising-replicate : (n : ℕ) (ballot : List ℕ) (ballots : List (List ℕ)) → IsIncreasing 1 most_candidates ballot → AreRising ballots → AreRising (replicate n ballot ++ ballots)
rising-replicate zero ballot ballots up rest v = rest v
rising-replicate (suc n) ballot ballots up rest zero = up
rising-replicate (suc n) ballot ballots up rest (suc v) = rising-replicate n ballot ballots up rest v

pub voters-rising : (m : ℕ) (rows : List Row) → m ≤ most_candidates → AllByRecursion (λ (r : Row). IsIncreasing 1 m r.0) rows → AreRising (voters_of rows)
voters-rising m [] most all v = tt
voters-rising m (row ∷ rows) most all v =
    rising-replicate row.1 row.0 (voters_of rows) (IsIncreasing-higher 1 m most_candidates row.0 most all.0) (voters-rising m rows most all.1) v

-- the gain of a candidate, summed over all blocks
pub columns-gain : (tally : Thiele) (blocks : List (List ℕ)) (weights set : List ℕ) (c : ℕ) → AreColumnsOf tally blocks weights
    → total (λ v. given weights set c (voter_ballot (voters_of tally.election.rows) v)) (length blocks * block_voters) ≡ gain (increments tally.rule tally.k) tally.election.rows set c
columns-gain tally blocks weights set c is =
    total-voters (given weights set c) refl (voters_of tally.election.rows) (length blocks * block_voters) is.all
    ∙ voters-sum (given weights set c) tally.election.rows
    ∙ gain-given weights (increments tally.rule tally.k) set c is.weights_are tally.election.rows

-- the voters of some rows and of the next are no more than all
pub voters-part : (rows : List Row) (i : ℕ) (row : Row) → slice_get rows i ≡ Some row → length (voters_of (take i rows)) + row.1 ≤ voter_count rows
voters-part rows i row at =
    omega (
      arith,
      ap length (voters-push rows i row at),
      length-append (voters_of (take i rows)) (replicate row.1 row.0),
      length-replicate row.1 row.0,
      ap (λ l. length (voters_of l)) (take-append-drop (i + 1) rows),
      ap length (voters-append (take (i + 1) rows) (drop (i + 1) rows)),
      length-append (voters_of (take (i + 1) rows)) (voters_of (drop (i + 1) rows)),
      voters-length rows,
    )

-- one block of all
pub block-at : (ballots blocks : List (List ℕ)) (b : ℕ) → AreColumns ballots blocks → AreRising ballots
    → IsBlock (λ i. voter_ballot ballots (b * block_voters + i)) (get_or blocks b [])
block-at ballots blocks b held up = record {
  rises = λ i. up (b * block_voters + i);
  approves = λ c i within. held b c i within;
}
