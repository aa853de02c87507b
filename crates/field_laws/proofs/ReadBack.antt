-- Lists of answers with the same text are the same.
use Rattle.std.proofs.Common.{◌≡◌, ℕ, zero, suc, ◌+◌, ◌-◌, ◌<◌, ◌≤◌, ◌^◌, ◌==◌, ◌||◌, ◌∙◌, Bool, true, false, cond, List, [], ◌∷◌, ◌++◌, refl, sym, ap, arith, append-nil, append_assoc, filter, flat_map, get_or, length, take, None, Some, Option}
use Rattle.std.specs.Prelude.{codes, nat_lt, slice_get, slice_index, unwrap_or}
use Rattle.std.specs.List.{AllByRecursion, range_with_len}
use Rattle.std.proofs.lemmas.Bool.{true≢false}
use Rattle.ballot_base.specs.CandSet.{has_member}
use Rattle.text_output.specs.Names.{Names, beside, called, name_or_number, names_text, seated_parties}
use Rattle.text_output.specs.Text.{line, numbers_text}
use Rattle.vote_cli.specs.Listing.{allocation_line, answers_text, committee_line, has_more, last_line, within_limit}
use Rattle.field_laws.specs.Lines.{AreInLines, AreNumbers}
use Rattle.field_laws.proofs.Cuts.{Lacks, after, after-at, before, before-at, before-end, first-digit, lacks-append, lacks-decimal, lacks-numbers, same-numbers}

-- ---- names

-- a text without the member
lacks-member : (c : ℕ) (text : List ℕ) → has_member text c ≡ false → Lacks c text
lacks-member c [] none = tt
lacks-member c (b ∷ text) none = by (b == c) refl (lacks-member c text)
  where
    by : (x : Bool) → (b == c) ≡ x → (has_member text c ≡ false → Lacks c text) → Lacks c (b ∷ text)
    by true is later = absurd (true≢false (sym (ap (λ y. y || has_member text c) is) ∙ none))
    by false is later = (is, later (sym (ap (λ y. y || has_member text c) is) ∙ none))

-- what a candidate is called lacks it too
lacks-called : (names : List (List ℕ)) (n : ℕ) → AllByRecursion (λ name. has_member name 10 ≡ false) names → n < 2 ^ 64 → Lacks 10 (called names n)
lacks-called names zero all fits = lacks-decimal 10 0 (omega arith) (omega arith)
lacks-called [] (suc i) all fits = lacks-decimal 10 (suc i) (omega arith) fits
lacks-called (name ∷ names) (suc zero) all fits = by name all.0
  where
    by : (text : List ℕ) → has_member text 10 ≡ false → Lacks 10 (name_or_number text (suc zero))
    by [] none = lacks-decimal 10 (suc zero) (omega arith) fits
    by (b ∷ text) none = lacks-member 10 (b ∷ text) none
lacks-called (name ∷ names) (suc (suc i)) all fits = later names i all.1
  where
    later : (list : List (List ℕ)) (j : ℕ) → AllByRecursion (λ x. has_member x 10 ≡ false) list → Lacks 10 (name_or_number (unwrap_or (slice_get list j) []) (suc (suc i)))
    later [] j none = lacks-decimal 10 (suc (suc i)) (omega arith) fits
    later ([] ∷ list) zero none = lacks-decimal 10 (suc (suc i)) (omega arith) fits
    later ((b ∷ text) ∷ list) zero none = lacks-member 10 (b ∷ text) none.0
    later (text ∷ list) (suc j) none = later list j none.1

lacks-names : (names : List (List ℕ)) (numbers : List ℕ) → AllByRecursion (λ name. has_member name 10 ≡ false) names → AllByRecursion (λ n. n < 2 ^ 64) numbers → Lacks 10 (names_text names numbers)
lacks-names names [] all fit = tt
lacks-names names (n ∷ []) all fit = lacks-called names n all fit.0
lacks-names names (n ∷ next ∷ numbers) all fit =
    lacks-append 10 (called names n ++ codes "; ") (names_text names (next ∷ numbers))
    (lacks-append 10 (called names n) (codes "; ") (lacks-called names n all fit.0) (refl, (refl, tt))) (lacks-names names (next ∷ numbers) all fit.1)

lacks-beside : (names : Names) (numbers : List ℕ) → AreInLines names → AllByRecursion (λ n. n < 2 ^ 64) numbers → Lacks 10 (beside names numbers)
lacks-beside None numbers all fit = tt
lacks-beside (Some names) numbers all fit = (refl, lacks-names names numbers all fit)

-- ---- lines

-- what stands beside numbers begins with a tab, so the text before the first tab is that of the numbers
before-tab : (names : Names) (text numbers : List ℕ) → Lacks 9 text → before 9 (text ++ beside names numbers) ≡ text
before-tab None text numbers lacks = ap (before 9) (append-nil text) ∙ before-end 9 text lacks
before-tab (Some names) text numbers lacks = before-at 9 text (names_text names numbers) lacks

-- numbers below 2^64
abbrev Fit : List ℕ → Type 0
Fit numbers = AllByRecursion (λ n. n < 2 ^ 64) numbers

-- the last line as it is without its end
abbrev last_words : Bool → List ℕ
last_words true = codes "more"
last_words false = codes "end"

last-lacks : (b : Bool) → Lacks 10 (last_words b)
last-lacks true = (refl, (refl, (refl, (refl, tt))))
last-lacks false = (refl, (refl, (refl, tt)))

last-is : (b : Bool) → last_line b ≡ last_words b ++ 10 ∷ []
last-is true = refl
last-is false = refl

last-same : (b c : Bool) → last_words b ≡ last_words c → b ≡ c
last-same true true same = refl
last-same true false same = absurd (let e : 4 ≡ 3 = ap length same in omega (arith, e))
last-same false true same = absurd (let e : 3 ≡ 4 = ap length same in omega (arith, e))
last-same false false same = refl

module _ (beside_of : List ℕ → List ℕ) where
  -- a line without its end
  abbrev content : Names → List ℕ → List ℕ
  content names numbers = numbers_text numbers ++ beside names (beside_of numbers)

  abbrev line_of : Names → List ℕ → List ℕ
  line_of names numbers = line (content names numbers)

  -- what is told by an answer: its numbers, and those that have names
  abbrev IsFit : List ℕ → Type 0
  IsFit numbers = Fit numbers × Fit (beside_of numbers)

  content-lacks : (names : Names) (numbers : List ℕ) → AreInLines names → IsFit numbers → Lacks 10 (content names numbers)
  content-lacks names numbers all fit =
      lacks-append 10 (numbers_text numbers) (beside names (beside_of numbers)) (lacks-numbers 10 numbers (omega arith) fit.0) (lacks-beside names (beside_of numbers) all fit.1)

  -- the same line is that of the same numbers
  content-same : (names other_names : Names) (numbers others : List ℕ) → IsFit numbers → IsFit others → content names numbers ≡ content other_names others → numbers ≡ others
  content-same names other_names numbers others fit fit' same =
      same-numbers numbers others fit.0 fit'.0
      (sym (before-tab names (numbers_text numbers) (beside_of numbers) (lacks-numbers 9 numbers (omega arith) fit.0))
      ∙ ap (before 9) same ∙ before-tab other_names (numbers_text others) (beside_of others) (lacks-numbers 9 others (omega arith) fit'.0))

  -- no answer is the last line
  not-last : (b : Bool) (names : Names) (numbers : List ℕ) → IsFit numbers → last_words b ≡ content names numbers → ⊥
  not-last b names numbers fit same = by b numbers fit.0 (first b) (sym (before-end 9 (last_words b) (tabs b)) ∙ ap (before 9) same ∙ before-tab names (numbers_text numbers) (beside_of numbers) (lacks-numbers 9 numbers (omega arith) fit.0))
    where
      tabs : (x : Bool) → Lacks 9 (last_words x)
      tabs true = (refl, (refl, (refl, (refl, tt))))
      tabs false = (refl, (refl, (refl, tt)))

      first : (x : Bool) → (letter : ℕ) × (rest : List ℕ) × (58 ≤ letter) × (last_words x ≡ letter ∷ rest)
      first true = (109, codes "ore", omega arith, refl)
      first false = (101, codes "nd", omega arith, refl)

      by : (x : Bool) (list : List ℕ) → Fit list → (letter : ℕ) × (rest : List ℕ) × (58 ≤ letter) × (last_words x ≡ letter ∷ rest) → last_words x ≡ numbers_text list → ⊥
      by x [] all letter e = absurd (omega (arith, ap length (sym letter.3 ∙ e)))
      by x (n ∷ list) all letter e =
          let digit = first-digit n list all.0 in
          let one = ap (λ text. get_or text 0 0) (sym letter.3 ∙ e ∙ digit.4) in
          absurd (omega (arith, letter.2, digit.3, one))

  -- ---- lists of answers

  -- the text of the answers and of the last line
  abbrev text_of : Names → List (List ℕ) → Bool → List ℕ
  text_of names answers more = flat_map (line_of names) answers ++ last_line more

  -- it is the first line, its end, and the others
  text-cons : (names : Names) (numbers : List ℕ) (answers : List (List ℕ)) (more : Bool) → text_of names (numbers ∷ answers) more ≡ content names numbers ++ 10 ∷ text_of names answers more
  text-cons names numbers answers more =
      append_assoc (line_of names numbers) (flat_map (line_of names) answers) (last_line more) ∙ append_assoc (content names numbers) (10 ∷ []) (text_of names answers more)

  pub same-answers : (names other_names : Names) (answers others : List (List ℕ)) (more other_more : Bool) → AreInLines names → AreInLines other_names
      → AllByRecursion IsFit answers → AllByRecursion IsFit others → text_of names answers more ≡ text_of other_names others other_more → (answers ≡ others) × (more ≡ other_more)
  same-answers names other_names [] [] more other_more all all' fit fit' same =
      let words =
      sym (before-at 10 (last_words more) [] (last-lacks more)) ∙ ap (before 10) (sym (last-is more) ∙ same ∙ last-is other_more) ∙ before-at 10 (last_words other_more) [] (last-lacks other_more) in
      (refl, last-same more other_more words)
  same-answers names other_names [] (numbers ∷ others) more other_more all all' fit fit' same =
      let words =
      sym (before-at 10 (last_words more) [] (last-lacks more)) ∙ ap (before 10) (sym (last-is more) ∙ same ∙ text-cons other_names numbers others other_more)
      ∙ before-at 10 (content other_names numbers) (text_of other_names others other_more) (content-lacks other_names numbers all' fit'.0) in
      absurd (not-last more other_names numbers fit'.0 words)
  same-answers names other_names (numbers ∷ answers) [] more other_more all all' fit fit' same =
      let words =
      sym (before-at 10 (last_words other_more) [] (last-lacks other_more)) ∙ ap (before 10) (sym (last-is other_more) ∙ sym same ∙ text-cons names numbers answers more)
      ∙ before-at 10 (content names numbers) (text_of names answers more) (content-lacks names numbers all fit.0) in
      absurd (not-last other_more names numbers fit.0 words)
  same-answers names other_names (numbers ∷ answers) (other ∷ others) more other_more all all' fit fit' same =
      let ours = content-lacks names numbers all fit.0 in
      let theirs = content-lacks other_names other all' fit'.0 in
      let whole : content names numbers ++ 10 ∷ text_of names answers more ≡ content other_names other ++ 10 ∷ text_of other_names others other_more =
      sym (text-cons names numbers answers more) ∙ same ∙ text-cons other_names other others other_more in
      let first =
      sym (before-at 10 (content names numbers) (text_of names answers more) ours) ∙ ap (before 10) whole ∙ before-at 10 (content other_names other) (text_of other_names others other_more) theirs in
      let rest =
      sym (after-at 10 (content names numbers) (text_of names answers more) ours) ∙ ap (after 10) whole ∙ after-at 10 (content other_names other) (text_of other_names others other_more) theirs in
      let later = same-answers names other_names answers others more other_more all all' fit.1 fit'.1 rest in
      (ap (λ n. n ∷ answers) (content-same names other_names numbers other fit.0 fit'.0 first) ∙ ap (λ l. other ∷ l) later.0, later.1)

-- ---- committees, and allocations

-- a number within a range of 64 bits
range-fits : (first count : ℕ) → first + count ≤ 2 ^ 64 → Fit (range_with_len first count)
range-fits first zero fits = tt
range-fits first (suc count) fits = (omega (arith, fits), range-fits (first + 1) count (omega (arith, fits)))

filter-fits : (p : ℕ → Bool) (numbers : List ℕ) → Fit numbers → Fit (filter p numbers)
filter-fits p [] fit = tt
filter-fits p (n ∷ numbers) fit = by (p n) (filter-fits p numbers fit.1)
  where
    by : (b : Bool) → Fit (filter p numbers) → Fit (cond b (n ∷ filter p numbers) (filter p numbers))
    by true rest = (fit.0, rest)
    by false rest = rest

committees-fit : (answers : List (List ℕ)) → AllByRecursion AreNumbers answers → AllByRecursion (IsFit (λ members. members)) answers
committees-fit [] all = tt
committees-fit (members ∷ answers) all = ((all.0.small, all.0.small), committees-fit answers all.1)

allocations-fit : (answers : List (List ℕ)) → AllByRecursion AreNumbers answers → AllByRecursion (IsFit seated_parties) answers
allocations-fit [] all = tt
allocations-fit (seats ∷ answers) all = (
  (all.0.small, filter-fits (λ party. nat_lt 0 (slice_index seats (party - 1))) (range_with_len 1 (length seats)) (range-fits 1 (length seats) (omega (arith, all.0.few)))),
  allocations-fit answers all.1,
)

within-fits : (limit : Option ℕ) (answers : List (List ℕ)) → AllByRecursion AreNumbers answers → AllByRecursion AreNumbers (within_limit limit answers)
within-fits None answers all = all
within-fits (Some n) answers all = taken n answers all
  where
    taken : (i : ℕ) (list : List (List ℕ)) → AllByRecursion AreNumbers list → AllByRecursion AreNumbers (take i list)
    taken zero list fit = tt
    taken (suc i) [] fit = tt
    taken (suc i) (numbers ∷ list) fit = (fit.0, taken i list fit.1)

module _ (names other_names : Names) (limit other_limit : Option ℕ) (answers others : List (List ℕ)) (all : AreInLines names) (all' : AreInLines other_names)
    (fit : AllByRecursion AreNumbers answers) (fit' : AllByRecursion AreNumbers others) where
  pub committees-back : answers_text (committee_line names) limit answers ≡ answers_text (committee_line other_names) other_limit others
      → (within_limit limit answers ≡ within_limit other_limit others) × (has_more limit answers ≡ has_more other_limit others)
  committees-back same =
      same-answers (λ members. members) names other_names (within_limit limit answers) (within_limit other_limit others) (has_more limit answers) (has_more other_limit others) all all'
      (committees-fit (within_limit limit answers) (within-fits limit answers fit)) (committees-fit (within_limit other_limit others) (within-fits other_limit others fit')) same

  pub allocations-back : answers_text (allocation_line names) limit answers ≡ answers_text (allocation_line other_names) other_limit others
      → (within_limit limit answers ≡ within_limit other_limit others) × (has_more limit answers ≡ has_more other_limit others)
  allocations-back same =
      same-answers seated_parties names other_names (within_limit limit answers) (within_limit other_limit others) (has_more limit answers) (has_more other_limit others) all all'
      (allocations-fit (within_limit limit answers) (within-fits limit answers fit)) (allocations-fit (within_limit other_limit others) (within-fits other_limit others fit')) same
