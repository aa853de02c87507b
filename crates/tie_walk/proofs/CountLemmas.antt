-- What is live before a start and at it: only what a walk enters on its way down to the start.
use Rattle.std.proofs.lemmas.Grind.{common_steps}
use Rattle.std.proofs.Common.{◌≡◌, ℕ, ◌+◌, ◌-◌, ◌<◌, ◌≤◌, ◌==◌, ◌∙◌, Bool, true, false, List, [], ◌∷◌, ◌++◌, Option, Some, refl, sym, ap, subst, arith, inl, inr, length, length-append, filter, append_assoc, Less}
use Rattle.std.specs.List.{AllByRecursion, list_any}
use Rattle.std.specs.Ordering.{nat_cmp, is_gt, ordering_then}
use Rattle.std.specs.Cmp.Lexicographic.{slice_cmp}
use Rattle.std.proofs.lemmas.Bool.{cases_Bool, cases_lt, and_right, lt-ltb, false≢true}
use Rattle.std.proofs.lemmas.Slice.Eq.{bytes_eq-Decides}
use Rattle.ballot_base.specs.Limits.{most_candidates}
use Rattle.ballot_base.specs.Lists.{IsIncreasing, increasing_lists, is_later, later_than}
use Rattle.ballot_base.specs.CandSet.{members_upto}
use Rattle.ballot_base.proofs.Committees.{IsChosen, increasing_lists-chosen}
use Rattle.ballot_base.proofs.FirstMember.{slice_cmp_same}
use Rattle.ballot_base.proofs.Increasing.{IsIncreasing-higher}
use Rattle.ballot_base.proofs.Later.{is_later-self}
use Rattle.ballot_base.proofs.ListLemmas.{AllByRecursion-weaker}
use Rattle.tie_walk.specs.Ceilings.{is_open, is_ahead, live_below, live_count}
use Rattle.tie_walk.specs.Steps.Walks.{committees_after, those_reaching, open_after, IsPast, IsBegun}
use Rattle.tie_walk.specs.declared.walk.Prefix.{Prefix}
use Rattle.tie_walk.proofs.LiveLemmas.{upto-all, upto-increasing, upto-next, upto-rest, ahead-start, live-open, live-parts, live-past, live-shut, place-upto}
use Rattle.tie_walk.proofs.OpenLemmas.{open_after-push, open-past, shut-large}
use Rattle.tie_walk.proofs.WaitLemmas.{work-most}
use Rattle.tie_walk.proofs.WalkLemmas.{prefix_at, from-past, place-past}

-- ---- what comes before a start

-- a list that goes on with a smaller number is not later
smaller-before : (front more rest : List ℕ) (n y : ℕ) → n < y → is_later (front ++ n ∷ more) (front ++ y ∷ rest) ≡ false
smaller-before front more rest n y low =
    and_right (length (front ++ n ∷ more) == length (front ++ y ∷ rest)) (is_gt (slice_cmp nat_cmp (front ++ n ∷ more) (front ++ y ∷ rest)))
    (ap is_gt (less front))
  where
    first : nat_cmp n y ≡ Less
    first = rw (lt-ltb n y low)

    less : (l : List ℕ) → slice_cmp nat_cmp (l ++ n ∷ more) (l ++ y ∷ rest) ≡ Less
    less [] = ap (λ o. ordering_then o (slice_cmp nat_cmp more rest)) first
    less (x ∷ l) = slice_cmp_same x (l ++ n ∷ more) (l ++ y ∷ rest) ∙ less l

none-passes : (p q : List ℕ → Bool) (xs : List (List ℕ)) → AllByRecursion (λ x. p x ≡ true → q x ≡ false) xs → list_any p (filter q xs) ≡ false
none-passes p q [] all = refl
none-passes p q (x ∷ xs) all = grind (arith, common_steps, none-passes p q xs all.1, cases_Bool, filter, false≢true)

module _ (m k : ℕ) (start : List ℕ) (up : IsIncreasing 1 m start) (size : length start ≡ k) where
  -- nothing is ahead where no committee with just these members up to c is later than the start
  not-ahead : (c : ℕ) (set : List ℕ) → ((list : List ℕ) → IsIncreasing 1 m list → members_upto list c ≡ set → is_later list start ≡ false)
      → is_ahead m k (Some start) c set ≡ false
  not-ahead c set none =
      grind (arith, common_steps, none-passes, AllByRecursion-weaker, IsChosen, bytes_eq-Decides, increasing_lists-chosen)

  -- the start itself
  pub ahead-whole : is_ahead m k (Some start) m start ≡ false
  ahead-whole = grind (arith, common_steps, not-ahead, upto-all, is_later-self)

  -- what has the next candidate, which the start has not
  ahead-before : (c : ℕ) → members_upto start (c + 1) ≡ members_upto start c → length (members_upto start c) < k
      → is_ahead m k (Some start) (c + 1) (members_upto start c ++ (c + 1) ∷ []) ≡ false
  ahead-before c gone few = not-ahead (c + 1) (members_upto start c ++ (c + 1) ∷ []) each
    where
      below : (rest more : List ℕ) → start ≡ members_upto start c ++ rest → IsIncreasing (c + 1 + 1) m rest
          → is_later (members_upto start c ++ (c + 1) ∷ more) start ≡ false
      below [] more is above = absurd (omega (arith, few, size, ap length is, length-append (members_upto start c) []))
      below (y ∷ rest) more is above = grind (arith, common_steps, smaller-before)

      each : (list : List ℕ) → IsIncreasing 1 m list → members_upto list (c + 1) ≡ members_upto start c ++ (c + 1) ∷ [] → is_later list start ≡ false
      each list chosen same =
          let parts = upto-rest 1 m (c + 1) list chosen in
          let own = upto-rest 1 m (c + 1) start up in
          let list-is : list ≡ members_upto start c ++ (c + 1) ∷ parts.0 =
          parts.1.0 ∙ ap (λ l. l ++ parts.0) same ∙ append_assoc (members_upto start c) ((c + 1) ∷ []) parts.0 in
          subst (λ l. is_later l start ≡ false) (sym list-is) (below own.0 parts.0 (own.1.0 ∙ ap (λ l. l ++ own.0) gone) own.1.1)

  -- a step down: but for the prefix that is entered, what was live is live below the next one or still to be entered
  pub down-all : (bound : ℕ → List ℕ → ℕ → ℕ) (best c : ℕ) → c < m → is_open bound m k best c (members_upto start c) ≡ true
      → live_below bound m k best (Some start) (m - c) c (members_upto start c) + open_after bound m k best [] (members_upto start c)
      ≤ 1 + live_below bound m k best (Some start) (m - (c + 1)) (c + 1) (members_upto start (c + 1)) + open_after bound m k best [] (members_upto start (c + 1))
  down-all bound best c more is =
      let set = members_upto start c in
      let below = upto-increasing 1 m c start up in
      let parts = live-parts m k (Some start) bound best c set more below is in
      elim (upto-next 1 m c start up) [
        | inl next ↦
            let all = ahead-start m k start set next.0 (c + 1) up size next.1.0 in
            let same = live-open m k (Some start) bound best (m - (c + 1)) (c + 1) set (omega (arith, more)) (IsIncreasing-higher 1 c (c + 1) set (omega arith) below) all in
            rw next.1.1 (omega (arith, parts, same, open_after-push bound m k best [] set (c + 1)))
        | inr gone ↦ rw gone (omega (arith, parts, before c gone))
      ]
    where
      before : (n : ℕ) → members_upto start (n + 1) ≡ members_upto start n
          → live_below bound m k best (Some start) (m - (n + 1)) (n + 1) (members_upto start n ++ (n + 1) ∷ []) ≡ 0
      before n gone =
          grind (arith, common_steps, cases_lt, live-past, Some, ahead-before, live-shut, shut-large, length-append)

  -- the first place of a walk that left the way down to the start at a beginning of it
  pub begun : (value : List ℕ → ℕ) (bound : ℕ → List ℕ → ℕ → ℕ) (best n : ℕ) (next : Option Prefix) (entered ceilings : ℕ) → m ≤ most_candidates → n ≤ m
      → IsPast (prefix_at n (members_upto start n)) next
      → those_reaching value best (committees_after m k [] (members_upto start n)) ≡ those_reaching value best (later_than (Some start) (increasing_lists 1 m k))
      → live_below bound m k best (Some start) (m - n) n (members_upto start n) ≡ 0
      → live_count bound m k best (Some start)
      ≤ n + live_below bound m k best (Some start) (m - n) n (members_upto start n) + open_after bound m k best [] (members_upto start n)
      → live_below bound m k best (Some start) (m - n) n (members_upto start n) + open_after bound m k best [] (members_upto start n) ≤ live_count bound m k best (Some start)
      → entered ≡ n → ceilings ≤ n + 1
      → IsBegun value bound m k best (Some start) (record { place = next; entered = entered; ceilings = ceilings })
  begun value bound best n next entered ceilings most low past left nothing all few entered-is once =
      let place : Prefix = prefix_at n (members_upto start n) in
      let still = open-past bound m k best place next past in
      let rest = place-past m k place next (place-upto m k n start place.set low up size refl) past in
      record {
        next = ap (those_reaching value best) (from-past m k place next past) ∙ left;
        counted = record {
          all = omega (arith, still, nothing, all, entered-is);
          few = omega (arith, still, few, entered-is, low);
          exact = λ e. absurd (cc);
          fits = omega (arith, once, low, most, work-most m k next most rest);
        };
      }
