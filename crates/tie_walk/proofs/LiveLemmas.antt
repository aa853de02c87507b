-- Live prefixes: those still to be entered after a start, and on the way down to it.
use Rattle.std.proofs.lemmas.Grind.{common_steps}
use Rattle.std.proofs.Common.{◌≡◌, ℕ, zero, suc, ◌+◌, ◌-◌, ◌<◌, ◌≤◌, ◌||◌, ◌∙◌, ◌⊎◌, Bool, true, false, List, [], ◌∷◌, ◌++◌, Option, None, Some, refl, sym, ap, subst, arith, inl, inr, length, length-append, filter, map, append_assoc, append-nil}
use Rattle.std.specs.Prelude.{nat_le}
use Rattle.std.specs.List.{AllByRecursion, list_any}
use Rattle.std.specs.Str.{bytes_eq}
use Rattle.std.proofs.lemmas.Bool.{cases_Bool, cases_lt, cases_eq, le-leb, lt-leb, or_left, or_right, false≢true}
use Rattle.std.proofs.lemmas.List.Elements.{filter-append}
use Rattle.std.proofs.lemmas.List.Folds.{list_any-append}
use Rattle.std.proofs.lemmas.Slice.Eq.{bytes_eq-Decides}
use Rattle.ballot_base.specs.Lists.{IsIncreasing, increasing_lists, later_than}
use Rattle.ballot_base.specs.CandSet.{with_member, members_upto}
use Rattle.ballot_base.proofs.Committees.{IsChosen, increasing_lists-chosen}
use Rattle.ballot_base.proofs.Increasing.{with_member-above, IsIncreasing-push, IsIncreasing-higher}
use Rattle.tie_walk.specs.Ceilings.{is_open, is_ahead, live_below, live_count}
use Rattle.tie_walk.specs.Steps.Walks.{committees_below, committees_after, IsPlace, those_reaching, open_below, open_after}
use Rattle.tie_walk.specs.Winners.{best_value, winners}
use Rattle.tie_walk.proofs.GreatestSums.{some_list}
use Rattle.tie_walk.proofs.StartLemmas.{later_than-filter}
use Rattle.tie_walk.proofs.WinnersLemmas.{winners-from_best}
use Rattle.tie_walk.proofs.WalkLemmas.{prefix_at, below-split, below-full, from-root, start-split, after-start}
use Rattle.tie_walk.proofs.OpenLemmas.{reaching-append, none-last, open-sizes, open-none, open_after-push, shut-large}

-- ---- the members up to c

pub upto-all : (first c : ℕ) (set : List ℕ) → IsIncreasing first c set → members_upto set c ≡ set
upto-all first c [] up = refl
upto-all first c (x ∷ set) up = rw (le-leb x c up.1) (ap (λ l. x ∷ l) (upto-all (x + 1) c set up.2))

pub upto-none : (first last c : ℕ) (set : List ℕ) → c < first → IsIncreasing first last set → members_upto set c ≡ []
upto-none first last c [] low up = refl
upto-none first last c (x ∷ set) low up = rw (lt-leb x c (omega (arith, low, up.0))) (upto-none (x + 1) last c set (omega (arith, low, up.0)) up.2)

upto-part : (c d m : ℕ) (set added : List ℕ) → d ≤ c → IsIncreasing 1 d set → IsIncreasing (c + 1) m added → members_upto (set ++ added) d ≡ set
upto-part c d m set added low up more = grind (arith, common_steps, filter-append, upto-all, upto-none, append-nil)

pub upto-twice : (c : ℕ) (set : List ℕ) → members_upto (members_upto set (c + 1)) c ≡ members_upto set c
upto-twice c [] = refl
upto-twice c (x ∷ set) = grind (arith, common_steps, upto-twice c set, cases_lt, lt-leb, le-leb)

-- a list is made of its members up to c and of larger ones
pub upto-rest : (first last c : ℕ) (set : List ℕ) → IsIncreasing first last set
    → (rest : List ℕ) × ((set ≡ members_upto set c ++ rest) × IsIncreasing (c + 1) last rest)
upto-rest first last c [] up = ([], (refl, tt))
upto-rest first last c (x ∷ set) up = elim (cases_lt c x) [
  | inr low ↦
      let more = upto-rest (x + 1) last c set up.2 in
      let here : members_upto (x ∷ set) c ≡ x ∷ members_upto set c = rw (le-leb x c low) in
      (more.0, (ap (λ l. x ∷ l) more.1.0 ∙ sym (ap (λ l. l ++ more.0) here), more.1.1))
  | inl high ↦
      let here : members_upto (x ∷ set) c ≡ [] = upto-none x last c (x ∷ set) high (omega arith, up.1, up.2) in
      (x ∷ set, (sym (ap (λ l. l ++ x ∷ set) here), (omega arith, up.1, up.2)))
]

pub upto-increasing : (first last c : ℕ) (set : List ℕ) → IsIncreasing first last set → IsIncreasing first c (members_upto set c)
upto-increasing first last c [] up = tt
upto-increasing first last c (x ∷ set) up =
    grind (arith, common_steps, upto-increasing (x + 1) last c set up.2, cases_lt, upto-none, le-leb)

-- one candidate more is a member, or not
pub upto-next : (first last c : ℕ) (set : List ℕ) → IsIncreasing first last set
    → ((rest : List ℕ) × ((set ≡ members_upto set c ++ (c + 1) ∷ rest) × (members_upto set (c + 1) ≡ members_upto set c ++ (c + 1) ∷ []))) ⊎ (members_upto set (c + 1) ≡ members_upto set c)
upto-next first last c set up =
    let parts = upto-rest first last c set up in
    by parts.0 parts.1.0 parts.1.1
  where
    front : (rest : List ℕ) → set ≡ members_upto set c ++ rest → members_upto set (c + 1) ≡ members_upto set c ++ members_upto rest (c + 1)
    front rest is =
        ap (λ l. members_upto l (c + 1)) is ∙ filter-append (λ n. nat_le n (c + 1)) (members_upto set c) rest
        ∙ ap (λ l. l ++ members_upto rest (c + 1)) (upto-all first (c + 1) (members_upto set c) (IsIncreasing-higher first c (c + 1) (members_upto set c) (omega arith) (upto-increasing first last c set up)))

    by : (rest : List ℕ) → set ≡ members_upto set c ++ rest → IsIncreasing (c + 1) last rest
        → ((more : List ℕ) × ((set ≡ members_upto set c ++ (c + 1) ∷ more) × (members_upto set (c + 1) ≡ members_upto set c ++ (c + 1) ∷ []))) ⊎ (members_upto set (c + 1) ≡ members_upto set c)
    by [] is above = inr (front [] is ∙ append-nil (members_upto set c))
    by (y ∷ rest) is above = grind (arith, common_steps, front (y ∷ rest) is, cases_eq, upto-none, le-leb, lt-leb, append-nil)

-- ---- lists that pass a test

any-weaker : (p q : List ℕ → Bool) (xs : List (List ℕ)) → ((x : List ℕ) → p x ≡ true → q x ≡ true) → list_any p xs ≡ true → list_any q xs ≡ true
any-weaker p q [] each is = is
any-weaker p q (x ∷ xs) each is = elim (cases_Bool (p x)) [
  | inl here ↦ or_left (q x) (list_any q xs) (each x here)
  | inr none ↦
      let rest : list_any p xs ≡ true = ap (λ b. b || list_any p xs) (sym none) ∙ is in
      or_right (q x) (list_any q xs) (any-weaker p q xs each rest)
]

-- ---- prefixes whose committees all come after the start

module _ (m k : ℕ) (after : Option (List ℕ)) where
  abbrev later : List (List ℕ)
  later = later_than after (increasing_lists 1 m k)

  -- a test that some committee below the prefix passes is passed after the start
  abbrev pub AllAhead : ℕ → List ℕ → Type 0
  AllAhead c set = (test : List ℕ → Bool) → list_any test (committees_below m k c set) ≡ true → list_any test later ≡ true

  pub some-below : (c d : ℕ) (set : List ℕ) → c ≤ m → d ≤ c → IsIncreasing 1 d set → length set ≤ k → k ≤ length set + (m - c)
      → list_any (λ list. bytes_eq (members_upto list d) set) (committees_below m k c set) ≡ true
  some-below c d set inside low up few enough =
      let some = some_list (m + 1 - (c + 1)) (c + 1) (k - length set) (omega arith) in
      let chosen = subst (AllByRecursion (IsChosen (c + 1) m (k - length set))) some.2 (increasing_lists-chosen (c + 1) m (k - length set)) in
      let same : members_upto (set ++ some.0) d ≡ set = upto-part c d m set some.0 low up chosen.0.0 in
      let first : bytes_eq (members_upto (set ++ some.0) d) set ≡ true = (bytes_eq-Decides (members_upto (set ++ some.0) d) set).1 same in
      ap (λ ls. list_any (λ list. bytes_eq (members_upto list d) set) (map (λ l. set ++ l) ls)) some.2
      ∙ or_left (bytes_eq (members_upto (set ++ some.0) d) set) (list_any (λ list. bytes_eq (members_upto list d) set) (map (λ l. set ++ l) some.1)) first

  pub ahead-here : (c d : ℕ) (set : List ℕ) → c ≤ m → d ≤ c → IsIncreasing 1 d set → length set ≤ k → k ≤ length set + (m - c)
      → AllAhead c set → is_ahead m k after d set ≡ true
  ahead-here c d set inside low up few enough all = grind (arith, common_steps, some-below)

  -- what is ahead has beginnings that are
  pub ahead-beginning : (c : ℕ) (set front : List ℕ) → members_upto set c ≡ front → is_ahead m k after (c + 1) set ≡ true → is_ahead m k after c front ≡ true
  ahead-beginning c set front cut is =
      grind (arith, common_steps, any-weaker, later, bytes_eq-Decides, upto-twice)

  module _ (bound : ℕ → List ℕ → ℕ → ℕ) (best : ℕ) where
    pub live-shut : (rest c : ℕ) (set : List ℕ) → is_open bound m k best c set ≡ false → live_below bound m k best after rest c set ≡ 0
    live-shut zero c set shut = rw shut
    live-shut (suc rest) c set shut = rw shut

    pub live-past : (rest c : ℕ) (set : List ℕ) → is_ahead m k after c set ≡ false → live_below bound m k best after rest c set ≡ 0
    live-past zero c set past = grind (arith, common_steps, cases_Bool, live-shut)
    live-past (suc rest) c set past = grind (arith, common_steps, cases_Bool, live-shut)

    -- where all committees below come after the start, those still to be entered are live
    pub live-open : (rest c : ℕ) (set : List ℕ) → c + rest ≡ m → IsIncreasing 1 c set → AllAhead c set
        → live_below bound m k best after rest c set ≡ open_below bound m k best rest c set
    live-open zero c set e up all =
        grind (arith, common_steps, cases_Bool, live-shut, open-none, open-sizes, ahead-here)
    live-open (suc rest) c set e up all = elim (cases_Bool (is_open bound m k best c set)) [
      | inr shut ↦ live-shut (suc rest) c set shut ∙ sym (open-none bound m k best (suc rest) c set shut)
      | inl is ↦
          let sizes = open-sizes bound m k best c set is in
          let ahead = ahead-here c c set (omega (arith, e)) (omega arith) up sizes.0 sizes.1 all in
          let grown : with_member set (c + 1) ≡ set ++ (c + 1) ∷ [] = with_member-above 1 c set (c + 1) up (omega arith) in
          let with' = live-grown rest c set e up sizes.0 all (λ up' all'. live-open rest (c + 1) (set ++ (c + 1) ∷ []) (omega (arith, e)) up' all') in
          let without' = live-open rest (c + 1) set (omega (arith, e)) (IsIncreasing-higher 1 c (c + 1) set (omega arith) up) (ahead-without c set (omega (arith, e)) sizes.0 all) in
          rw (is, ahead, grown) (omega (arith, with', without'))
    ]
      where
        ahead-without : (n : ℕ) (s : List ℕ) → n < m → length s ≤ k → AllAhead n s → AllAhead (n + 1) s
        ahead-without n s more few all' test is =
            grind (arith, common_steps, cases_lt, below-split, list_any-append, or_right, below-full)

        live-grown : (r n : ℕ) (s : List ℕ) → n + suc r ≡ m → IsIncreasing 1 n s → length s ≤ k → AllAhead n s
            → (IsIncreasing 1 (n + 1) (s ++ (n + 1) ∷ []) → AllAhead (n + 1) (s ++ (n + 1) ∷ [])
            → live_below bound m k best after r (n + 1) (s ++ (n + 1) ∷ []) ≡ open_below bound m k best r (n + 1) (s ++ (n + 1) ∷ []))
            → live_below bound m k best after r (n + 1) (s ++ (n + 1) ∷ []) ≡ open_below bound m k best r (n + 1) (s ++ (n + 1) ∷ [])
        live-grown r n s e' up' few all' again =
            grind (arith, common_steps, cases_lt, IsIncreasing-push, below-split, list_any-append, or_left, length-append, shut-large, live-shut, open-none)

    -- ---- on the way down to the start: the prefix with the next candidate, and the one without
    module _ (c : ℕ) (set : List ℕ) (more : c < m) (up : IsIncreasing 1 c set) (is : is_open bound m k best c set ≡ true) where
      live-split : is_ahead m k after c set ≡ true → live_below bound m k best after (m - c) c set
          ≡ 1 + live_below bound m k best after (m - (c + 1)) (c + 1) (set ++ (c + 1) ∷ []) + live_below bound m k best after (m - (c + 1)) (c + 1) set
      live-split ahead = grind (arith, common_steps, with_member-above)

      -- no more than the prefix itself, those with the next candidate, and those without
      pub live-parts : live_below bound m k best after (m - c) c set
          ≤ 1 + live_below bound m k best after (m - (c + 1)) (c + 1) (set ++ (c + 1) ∷ []) + live_below bound m k best after (m - (c + 1)) (c + 1) set
      live-parts = grind (arith, common_steps, cases_Bool, live-split, live-past)

      -- the parts of a prefix that the walk is past are past
      past-part : (next : List ℕ) → members_upto next c ≡ set → is_ahead m k after c set ≡ false → live_below bound m k best after (m - (c + 1)) (c + 1) next ≡ 0
      past-part next cut past = grind (arith, common_steps, cases_Bool, false≢true, ahead-beginning, live-past)

      upto-set : members_upto set c ≡ set
      upto-set = upto-all 1 c set up

      upto-grown : members_upto (set ++ (c + 1) ∷ []) c ≡ set
      upto-grown = upto-part c c (c + 1) set ((c + 1) ∷ []) (omega arith) up (omega arith, omega arith, tt)

      pub down-without : live_below bound m k best after (m - (c + 1)) (c + 1) set ≤ live_below bound m k best after (m - c) c set
      down-without = grind (arith, common_steps, cases_Bool, live-split, past-part, upto-set)

      pub down-with : AllAhead (c + 1) set
          → live_below bound m k best after (m - (c + 1)) (c + 1) (set ++ (c + 1) ∷ []) + open_below bound m k best (m - (c + 1)) (c + 1) set ≤ live_below bound m k best after (m - c) c set
      down-with all =
          let same = live-open (m - (c + 1)) (c + 1) set (omega (arith, more)) (IsIncreasing-higher 1 c (c + 1) set (omega arith) up) all in
          elim (cases_Bool (is_ahead m k after c set)) [
            | inl ahead ↦ omega (arith, live-split ahead, same)
            | inr past ↦ omega (arith, past-part set upto-set past, past-part (set ++ (c + 1) ∷ []) upto-grown past, same)
          ]

-- ---- a walk over all committees

pub all-ahead : (m k : ℕ) → AllAhead m k None 0 []
all-ahead m k test is = ap (list_any test) (sym (from-root m k)) ∙ is

-- all that a walk over all committees is to enter is live
pub all-live : (bound : ℕ → List ℕ → ℕ → ℕ) (m k best : ℕ) → live_count bound m k best None ≡ open_below bound m k best m 0 []
all-live bound m k best = live-open m k None bound best m 0 [] (omega arith) tt (all-ahead m k)

-- ---- a walk from a start on

module _ (m k : ℕ) where
  -- the committees after one of them are those after the last of its beginnings, and then those after the beginning
  pub after-append : (front set rest : List ℕ) → committees_after m k front (set ++ rest) ≡ committees_after m k (front ++ set) rest ++ committees_after m k front set
  after-append front [] rest = ap (λ f. committees_after m k f rest) (sym (append-nil front)) ∙ sym (append-nil (committees_after m k (front ++ []) rest))
  after-append front (x ∷ set) rest = grind (arith, common_steps, after-append (front ++ x ∷ []) set rest, append_assoc)

  in-after : (test : List ℕ → Bool) (set rest : List ℕ) (n : ℕ) → list_any test (committees_below m k n set) ≡ true
      → list_any test (committees_after m k [] (set ++ n ∷ rest)) ≡ true
  in-after test set rest n is = grind (arith, common_steps, after-append, list_any-append, or_left, or_right)

  -- without a member of the start, and with all before it, come committees after the start
  pub ahead-start : (start set rest : List ℕ) (n : ℕ) → IsIncreasing 1 m start → length start ≡ k → start ≡ set ++ n ∷ rest → AllAhead m k (Some start) n set
  ahead-start start set rest n up size is test some =
      ap (list_any test) (sym (after-start m k start up size) ∙ ap (committees_after m k []) is) ∙ in-after test set rest n some

  -- nothing is lost where the walk leaves the way down to the start
  pub left-early : (value : List ℕ → ℕ) (best c : ℕ) (start : List ℕ) → c ≤ m → IsIncreasing 1 m start → length start ≡ k
      → those_reaching value best (committees_below m k c (members_upto start c)) ≡ []
      → those_reaching value best (committees_after m k [] (members_upto start c)) ≡ those_reaching value best (later_than (Some start) (increasing_lists 1 m k))
  left-early value best c start low up size none =
      let set = members_upto start c in
      let parts = upto-rest 1 m c start up in
      let rest = parts.0 in
      let count : length set + length rest ≡ k = omega (arith, size, ap length parts.1.0, length-append set rest) in
      let split = start-split m k (m - c) c set rest (omega (arith, low)) count parts.1.1 in
      let behind : those_reaching value best ((set ++ rest) ∷ committees_after m k set rest) ≡ [] =
      none-last value best split.0 ((set ++ rest) ∷ committees_after m k set rest) (ap (those_reaching value best) (sym split.1) ∙ none) in
      let gone : those_reaching value best (committees_after m k set rest) ≡ [] = none-last value best ((set ++ rest) ∷ []) (committees_after m k set rest) behind in
      sym (
      ap (those_reaching value best) (sym (after-start m k start up size) ∙ ap (committees_after m k []) parts.1.0 ∙ after-append [] set rest)
      ∙ reaching-append value best (committees_after m k set rest) (committees_after m k [] set)
      ∙ ap (λ ls. ls ++ those_reaching value best (committees_after m k [] set)) gone)

  pub upto-few : (c : ℕ) (start : List ℕ) → IsIncreasing 1 m start → length start ≡ k → length (members_upto start c) ≤ k
  upto-few c start up size = grind (arith, common_steps, upto-rest 1 m c start up, length-append)

  -- each beginning of a start is a place
  pub place-upto : (c : ℕ) (start set : List ℕ) → c ≤ m → IsIncreasing 1 m start → length start ≡ k → set ≡ members_upto start c → IsPlace m k (Some (prefix_at c set))
  place-upto c start set inside up size is = grind (arith, common_steps, upto-increasing, upto-few)

  -- a step down: what is live below the next beginning, and what is still to be entered after it, is no more
  pub down-step : (bound : ℕ → List ℕ → ℕ → ℕ) (best c : ℕ) (start : List ℕ) → c < m → IsIncreasing 1 m start → length start ≡ k
      → is_open bound m k best c (members_upto start c) ≡ true
      → live_below bound m k best (Some start) (m - (c + 1)) (c + 1) (members_upto start (c + 1)) + open_after bound m k best [] (members_upto start (c + 1))
      ≤ live_below bound m k best (Some start) (m - c) c (members_upto start c) + open_after bound m k best [] (members_upto start c)
  down-step bound best c start more up size is =
      let set = members_upto start c in
      grind (arith, common_steps, upto-increasing 1 m c start up, upto-next 1 m c start up, ahead-start, down-with, open_after-push, down-without)

-- the committees from the first place on that reach the greatest value are the winners after the start
pub winners-left : (value : List ℕ → ℕ) (n m k best : ℕ) (sets : List (List ℕ)) (start after : Option (List ℕ)) → n ≡ m → best ≡ best_value value n k
    → those_reaching value best sets ≡ those_reaching value best (later_than start (increasing_lists 1 n k)) → after ≡ start
    → those_reaching value best sets ≡ later_than after (winners value m k)
winners-left value n m k best sets start after count greatest left is =
    grind (arith, common_steps, later_than-filter, filter, winners-from_best)
