-- What a set gains by a candidate: over the rows, and as the difference of two values.
use Rattle.std.proofs.lemmas.Grind.{common_steps}
use Rattle.std.proofs.Common.{◌≡◌, ℕ, zero, suc, ◌+◌, ◌-◌, ◌*◌, ◌<◌, ◌≤◌, ◌^◌, ◌∙◌, Bool, true, false, cond, List, [], ◌∷◌, Some, refl, sym, ap, arith, length, take, get_or, slice_get, sum, sum_by, add-one}
use Rattle.std.proofs.lemmas.Bool.{cases_eq, eq-eqb, ne_eqb}
use Rattle.std.proofs.lemmas.List.Sums.{sum_by-cons, count_by-le-length}
use Rattle.std.proofs.Math.Nat.{mul-le-mul_right, div-mul-le_self}
use Rattle.ballot_base.specs.Limits.{most_candidates, most_members, most_score, most_thiele_value, most_increments}
use Rattle.ballot_base.specs.Lists.{IsIncreasing}
use Rattle.ballot_base.specs.CandSet.{has_member, with_member}
use Rattle.ballot_base.specs.CommonMultiple.{common_multiple}
use Rattle.ballot_base.specs.Increments.{increments}
use Rattle.ballot_base.specs.declared.increments.ThieleRule.{ThieleRule}
use Rattle.ballot_base.specs.Ballots.{Row, Election, IsElection, hits}
use Rattle.ballot_base.proofs.Committees.{length-increasing}
use Rattle.ballot_base.proofs.LeastMultiples.{common_multiple_small}
use Rattle.ballot_base.proofs.Increasing.{has_member-with_member, has_member-below, has_member-above, has_member_head, has_member_tail}
use Rattle.tie_walk.specs.Ceilings.{gain_at, greatest_sum, ceiling}
use Rattle.tie_walk.specs.Sequences.{weight, gain}
use Rattle.tie_walk.specs.Steps.Tables.{parts, score}
use Rattle.tie_walk.specs.Values.{thiele_value, satisfaction_value}
use Rattle.tie_walk.specs.declared.sequential.Step.TheVariants.{Grow}
use Rattle.tie_walk.proofs.GreatestSums.{greatest_sum-same}
use Rattle.tie_walk.proofs.RowSums.{AreBallots, sum-parts, rows-more, rows-bound, all-most, satisfaction_value-by_parts}
use Rattle.tie_walk.proofs.TableLemmas.{sum-take_more, parts-at, sum-take-le, weight-le-sum, increments_sum-most}
use Rattle.tie_walk.proofs.WorthLemmas.{part-most, partial, share, worth-most, worth-whole, supported}

abbrev pub bit : Bool → ℕ
bit b = cond b 1 0

-- one candidate more is one hit more for those who approve it
pub hits-with : (first last : ℕ) (ballot set : List ℕ) (x : ℕ) → IsIncreasing first last ballot → has_member set x ≡ false
    → hits ballot (with_member set x) ≡ hits ballot set + bit (has_member ballot x)
hits-with first last [] set x up none = refl
hits-with first last (n ∷ ballot) set x up none =
    grind (arith, common_steps, hits-with (n + 1) last ballot set x up.2 none, none, sum_by-cons, cases_eq, has_member-with_member, eq-eqb, has_member_head, has_member-below, ne_eqb, has_member_tail)

product-of-bit : (b : Bool) (n w : ℕ) → n * bit b * w ≡ n * cond b w 0
product-of-bit true n w = omega arith
product-of-bit false n w = omega arith

-- ---- Thiele's rules

one_more : (b : Bool) (w : List ℕ) (h : ℕ) → sum (take (h + bit b) w) ≡ sum (take h w) + cond b (weight w (h + 1)) 0
one_more true w h = let e : weight w (h + 1) ≡ get_or w h 0 = ap (weight w) (add-one h) in omega (arith, e, sum-take_more w h)
one_more false w h = let e : h + 0 ≡ h = omega arith in omega (arith, ap (λ n. sum (take n w)) e)

pub thiele-partial : (m : ℕ) (w : List ℕ) (rows : List Row) (set : List ℕ) (x : ℕ) → AreBallots m rows → has_member set x ≡ false
    → thiele_value w rows (with_member set x) ≡ thiele_value w rows set + partial Grow w set x rows
thiele-partial m w rows set x all none =
    sum-parts (λ (r : Row). r.1 * sum (take (hits r.0 (with_member set x)) w)) (λ (r : Row). r.1 * sum (take (hits r.0 set) w)) (λ (r : Row). r.1 * share Grow w set x r) m rows all
    (λ r up. ap (λ h. r.1 * sum (take h w)) (hits-with 1 m r.0 set x up none) ∙ ap (λ n. r.1 * n) (one_more (has_member r.0 x) w (hits r.0 set)) ∙ omega arith)

-- the gain is the difference of the values
pub thiele-gain : (m : ℕ) (w : List ℕ) (rows : List Row) (set : List ℕ) (x : ℕ) → AreBallots m rows → has_member set x ≡ false
    → gain w rows set x ≡ gain_at (thiele_value w rows) set x
thiele-gain m w rows set x all none = omega (arith, thiele-partial m w rows set x all none, worth-whole Grow w rows set x)

-- the ceiling by a table of the gains
pub thiele-ceiling : (e : Election) (w gains : List ℕ) (c left : ℕ) (set : List ℕ) → IsElection e → IsIncreasing 1 c set → ((x : ℕ) → c < x → x ≤ e.m → get_or gains x 0 ≡ gain w e.rows set x)
    → thiele_value w e.rows set + greatest_sum (λ x. get_or gains x 0) (c + 1) e.m left ≡ ceiling (thiele_value w e.rows) e.m c set left
thiele-ceiling e w gains c left set valid up are =
    ap (λ n. thiele_value w e.rows set + n)
    (greatest_sum-same (λ x. get_or gains x 0) (gain_at (thiele_value w e.rows) set) (c + 1) e.m
    (λ x low high. are x (omega arith) high ∙ thiele-gain e.m w e.rows set x valid.ballots (has_member-above 1 c set x up (omega arith))) left)

-- ---- satisfaction approval

-- what a supporter of the candidate gives for it
abbrev pub given : List ℕ → ℕ → Row → ℕ
given shares x row = cond (has_member row.0 x) (get_or shares (length row.0) 0) 0

pub score-whole : (shares : List ℕ) (rows : List Row) (x : ℕ) → sum_by (λ (r : Row). r.1 * given shares x r) rows ≡ score shares rows x
score-whole shares rows x = supported (λ (r : Row). get_or shares (length r.0) 0) x rows

shares-with : (m : ℕ) (shares : List ℕ) (rows : List Row) (set : List ℕ) (x : ℕ) → AreBallots m rows → has_member set x ≡ false
    → sum_by (λ (r : Row). r.1 * hits r.0 (with_member set x) * get_or shares (length r.0) 0) rows
    ≡ sum_by (λ (r : Row). r.1 * hits r.0 set * get_or shares (length r.0) 0) rows + sum_by (λ (r : Row). r.1 * given shares x r) rows
shares-with m shares rows set x all none =
    sum-parts (λ (r : Row). r.1 * hits r.0 (with_member set x) * get_or shares (length r.0) 0) (λ (r : Row). r.1 * hits r.0 set * get_or shares (length r.0) 0) (λ (r : Row). r.1 * given shares x r) m rows all
    (λ r up. let s = get_or shares (length r.0) 0 in ap (λ h. r.1 * h * s) (hits-with 1 m r.0 set x up none) ∙ omega (arith, product-of-bit (has_member r.0 x) r.1 s))

pub satisfaction-more : (m n : ℕ) (shares : List ℕ) (rows : List Row) (set : List ℕ) (x : ℕ) → m ≤ most_candidates → AreBallots m rows → shares ≡ parts (common_multiple n) → has_member set x ≡ false
    → satisfaction_value n rows (with_member set x) ≡ satisfaction_value n rows set + score shares rows x
satisfaction-more m n shares rows set x most all is none =
    omega (
      arith,
      score-whole shares rows x,
      shares-with m shares rows set x all none,
      satisfaction_value-by_parts m n shares rows set most all is,
      satisfaction_value-by_parts m n shares rows (with_member set x) most all is,
    )

pub satisfaction-gain : (m n : ℕ) (shares : List ℕ) (rows : List Row) (set : List ℕ) (x : ℕ) → m ≤ most_candidates → AreBallots m rows → shares ≡ parts (common_multiple n) → has_member set x ≡ false
    → score shares rows x ≡ gain_at (satisfaction_value n rows) set x
satisfaction-gain m n shares rows set x most all is none = omega (arith, satisfaction-more m n shares rows set x most all is none)

pub satisfaction-ceiling : (e : Election) (shares scores : List ℕ) (c left : ℕ) (set : List ℕ) → IsElection e → IsIncreasing 1 c set → shares ≡ parts (common_multiple e.m) → ((x : ℕ) → get_or scores x 0 ≡ score shares e.rows x)
    → satisfaction_value e.m e.rows set + greatest_sum (λ x. get_or scores x 0) (c + 1) e.m left ≡ ceiling (satisfaction_value e.m e.rows) e.m c set left
satisfaction-ceiling e shares scores c left set valid up is are =
    ap (λ n. satisfaction_value e.m e.rows set + n)
    (greatest_sum-same (λ x. get_or scores x 0) (gain_at (satisfaction_value e.m e.rows) set) (c + 1) e.m
    (λ x low high. are x ∙ satisfaction-gain e.m e.m shares e.rows set x valid.most valid.ballots is (has_member-above 1 c set x up (omega arith))) left)

-- ---- how large they are

module _ (shares : List ℕ) (x : ℕ) (small : (n : ℕ) → get_or shares n 0 ≤ 2 ^ 90 - 1) where
  pub score-most : (e : Election) → IsElection e → score shares e.rows x ≤ most_score
  score-most e valid = omega (arith, score-whole shares e.rows x, all-most (given shares x) e (2 ^ 90 - 1) valid (λ r h. omega (arith, small (length r.0), part-most (has_member r.0 x) (get_or shares (length r.0) 0))))

  pub score-more : (rows : List Row) (i : ℕ) (row : Row) → slice_get rows i ≡ Some row
      → sum_by (λ (r : Row). r.1 * given shares x r) (take (i + 1) rows) ≡ sum_by (λ (r : Row). r.1 * given shares x r) (take i rows) + cond (has_member row.0 x) (row.1 * get_or shares (length row.0) 0) 0
  score-more rows i row found =
      grind (arith, common_steps, rows-more (given shares x) rows i row found, given shares x)

  -- the sum so far and what the next row's voters give
  pub score-fits : (e : Election) (i : ℕ) (row : Row) → IsElection e → slice_get e.rows i ≡ Some row
      → sum_by (λ (r : Row). r.1 * given shares x r) (take i e.rows) + row.1 * get_or shares (length row.0) 0 ≤ most_score
  score-fits e i row valid found =
      omega (
        arith,
        rows-bound (λ (r : Row). get_or shares (length r.0) 0) (given shares x) (λ r. part-most (has_member r.0 x) (get_or shares (length r.0) 0)) e (2 ^ 90 - 1) i row valid (λ r h. small (length r.0)) found,
      )

pub hits-none : (ballot : List ℕ) → hits ballot [] ≡ 0
hits-none [] = refl
hits-none (n ∷ ballot) = omega (arith, hits-none ballot, sum_by-cons (λ y. cond (has_member [] y) 1 0) n ballot)

-- what one voter gives
voter-most : (e : Election) (shares set : List ℕ) (row : Row) → IsElection e → shares ≡ parts (common_multiple e.m) → IsIncreasing 1 e.m row.0 → hits row.0 set * get_or shares (length row.0) 0 ≤ 2 ^ 90 - 1
voter-most e shares set ([], voters) valid is up = omega arith
voter-most e shares set (x ∷ ballot, voters) valid is up =
    grind (arith, common_steps, parts-at, length-increasing, mul-le-mul_right, count_by-le-length, div-mul-le_self, common_multiple_small)

-- what all voters give
pub satisfaction-most : (e : Election) (shares set : List ℕ) → IsElection e → shares ≡ parts (common_multiple e.m) → satisfaction_value e.m e.rows set ≤ most_score
satisfaction-most e shares set valid is =
    omega (
      arith,
      satisfaction_value-by_parts e.m e.m shares e.rows set valid.most valid.ballots is,
      products e.rows,
      all-most (λ (r : Row). hits r.0 set * get_or shares (length r.0) 0) e (2 ^ 90 - 1) valid (λ r up. voter-most e shares set r valid is up),
    )
  where
    mul-assoc : (a b c : ℕ) → a * b * c ≡ a * (b * c)
    mul-assoc a b c = omega arith

    products : (rows : List Row) → sum_by (λ (r : Row). r.1 * hits r.0 set * get_or shares (length r.0) 0) rows ≡ sum_by (λ (r : Row). r.1 * (hits r.0 set * get_or shares (length r.0) 0)) rows
    products [] = refl
    products (row ∷ rows) = grind (arith, common_steps, products rows, sum_by-cons, get_or, mul-assoc)

satisfaction-none : (n : ℕ) (shares : List ℕ) (rows : List Row) → sum_by (λ (r : Row). r.1 * hits r.0 [] * get_or shares (length r.0) 0) rows ≡ 0
satisfaction-none n shares [] = refl
satisfaction-none n shares (row ∷ rows) =
    grind (arith, common_steps, satisfaction-none n shares rows, get_or, hits-none, sum_by-cons)

pub satisfaction-nothing : (e : Election) (shares : List ℕ) → IsElection e → shares ≡ parts (common_multiple e.m) → satisfaction_value e.m e.rows [] ≡ 0
satisfaction-nothing e shares valid is = sym (satisfaction_value-by_parts e.m e.m shares e.rows [] valid.most valid.ballots is) ∙ satisfaction-none e.m shares e.rows

-- value and gains fit in 128 bits
pub satisfaction-fits : (e : Election) (shares set : List ℕ) (c left value more : ℕ) → IsElection e → shares ≡ parts (common_multiple e.m) → IsIncreasing 1 c set → c ≤ e.m → left ≤ e.m - c
    → value ≡ satisfaction_value e.m e.rows set → more ≤ left * most_score → value + more < 2 ^ 128
satisfaction-fits e shares set zero left value more valid is up within few are most =
    let empty : set ≡ [] = none set up in
    let size : left ≤ 64 = omega (arith, few, valid.most) in
    let product : left * most_score ≤ 64 * most_score = mul-le-mul_right most_score size in
    omega (arith, product, most, are, ap (satisfaction_value e.m e.rows) empty, satisfaction-nothing e shares valid is)
  where
    none : (s : List ℕ) → IsIncreasing 1 0 s → s ≡ []
    none [] h = refl
    none (x ∷ s) h = absurd (omega (arith, h.0, h.1))
satisfaction-fits e shares set (suc c) left value more valid is up within few are most =
    grind (arith, common_steps, mul-le-mul_right, satisfaction-most)

-- ---- under Thiele's rules

pub gain-most : (e : Election) (w set : List ℕ) (x most : ℕ) → IsElection e → ((i : ℕ) → get_or w i 0 ≤ most) → gain w e.rows set x ≤ 2 ^ 32 * most
gain-most = worth-most Grow

pub thiele-most : (e : Election) (w set : List ℕ) (most : ℕ) → IsElection e → ((x : ℕ) → sum (take x w) ≤ most) → thiele_value w e.rows set ≤ 2 ^ 32 * most
thiele-most e w set most valid all = all-most (λ (r : Row). sum (take (hits r.0 set) w)) e most valid (λ r up. all (hits r.0 set))

-- no increment is greater than all of them together
pub weights-small : (rule : ThieleRule) (k : ℕ) (w : List ℕ) (i : ℕ) → k ≤ most_members → w ≡ increments rule k → get_or w i 0 ≤ most_increments
weights-small rule k w i few is = omega (arith, ap (λ l. get_or l i 0) is, weight-le-sum (increments rule k) i, increments_sum-most rule k few)

-- value and gains fit in 128 bits
pub thiele-fits : (e : Election) (rule : ThieleRule) (k c left value more : ℕ) (set : List ℕ) → IsElection e → k ≤ most_members → left ≤ e.m - c
    → value ≡ thiele_value (increments rule k) e.rows set → more ≤ left * most_thiele_value → value + more < 2 ^ 128
thiele-fits e rule k c left value more set valid small few are most =
    let size : left ≤ 64 = omega (arith, few, valid.most) in
    let product : left * most_thiele_value ≤ 64 * most_thiele_value = mul-le-mul_right most_thiele_value size in
    omega (
      arith,
      thiele-most e (increments rule k) set most_increments valid (λ x. omega (arith, sum-take-le (increments rule k) x, increments_sum-most rule k small)),
    )

pub thiele-nothing : (w : List ℕ) (rows : List Row) → thiele_value w rows [] ≡ 0
thiele-nothing w [] = refl
thiele-nothing w (row ∷ rows) =
    grind (arith, common_steps, thiele-nothing w rows, hits-none, sum_by-cons)
