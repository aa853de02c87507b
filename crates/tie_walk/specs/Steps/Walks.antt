-- A walk over all committees, in lexicographic order, from prefix to prefix.
use Rattle.std.specs.Prelude.{◌≡◌, ℕ, zero, suc, ◌+◌, ◌-◌, ◌*◌, ◌^◌, ◌<◌, ◌≤◌, Bool, List, [], ◌∷◌, ◌++◌, Option, None, Some, ⊤, length, map, filter, sum_by, nat_le, MatchOption, option_to_list, if◌then◌else◌}
use Rattle.std.specs.List.{list_any}
use Rattle.ballot_base.specs.Limits.{most_candidates}
use Rattle.ballot_base.specs.Lists.{IsIncreasing, increasing_lists, later_than}
use Rattle.ballot_base.specs.CandSet.{with_member}
use Rattle.tie_walk.specs.Ceilings.{IsExactAtBest, is_open, live_count}
use Rattle.tie_walk.specs.declared.walk.Prefix.{Prefix}
use Rattle.tie_walk.specs.declared.walk.Walk.{Walk}

-- the committees of k of the candidates 1 to m whose members up to c are exactly the set, which has at most k
abbrev pub committees_below : ℕ → ℕ → ℕ → List ℕ → List (List ℕ)
committees_below m k c set = map (λ added. set ++ added) (increasing_lists (c + 1) m (k - length set))

-- the committees after those with all of `front` and `rest`, as far as they have all of `front`
abbrev pub committees_after : ℕ → ℕ → List ℕ → List ℕ → List (List ℕ)
committees_after m k front [] = []
committees_after m k front (n ∷ rest) = committees_after m k (front ++ n ∷ []) rest ++ committees_below m k n front

-- the committees from a place on
abbrev pub committees_from : ℕ → ℕ → Option Prefix → List (List ℕ)
committees_from m k None = []
committees_from m k (Some prefix) = committees_below m k prefix.c prefix.set ++ committees_after m k [] prefix.set

-- a place is a prefix of at most k of the candidates 1 to m, or the end
abbrev pub IsPlace : ℕ → ℕ → Option Prefix → Type 0
IsPlace m k None = ⊤
IsPlace m k (Some prefix) = (prefix.c ≤ m) × IsIncreasing 1 prefix.c prefix.set × (length prefix.set ≤ k)

-- what comes after all committees below the prefix: the last member becomes a non-member
abbrev pub IsPast : Prefix → Option Prefix → Type 0
IsPast prefix next = MatchOption next (prefix.set ≡ [])
    (λ place. (prefix.set ≡ place.set ++ place.c ∷ []) × (place.c ≤ prefix.c) × IsIncreasing 1 place.c place.set)

-- at least the number of prefixes that are still to come
abbrev pub work_left : ℕ → Option Prefix → ℕ
work_left m None = 0
work_left m (Some prefix) = 3 ^ (m - prefix.c) + sum_by (λ n. 3 ^ (m - n)) prefix.set

-- the committees whose value reaches the best
abbrev pub those_reaching : (List ℕ → ℕ) → ℕ → List (List ℕ) → List (List ℕ)
those_reaching value best committees = filter (λ set. nat_le best (value set)) committees

module _ (bound : ℕ → List ℕ → ℕ → ℕ) (m k best : ℕ) where
  -- how many prefixes begin with c and the set, if `rest` candidates come after c and each beginning from c on is open
  abbrev pub open_below : ℕ → ℕ → List ℕ → ℕ
  open_below zero c set = if is_open bound m k best c set then 1 else 0
  open_below (suc rest) c set =
      if is_open bound m k best c set
      then 1 + open_below rest (c + 1) (with_member set (c + 1)) + open_below rest (c + 1) set
      else 0

  -- how many come after those with all of `front` and `rest`, as far as they have all of `front`
  abbrev pub open_after : List ℕ → List ℕ → ℕ
  open_after front [] = 0
  open_after front (n ∷ rest) = open_after (front ++ n ∷ []) rest + open_below (m - n) n front

  -- how many are still to be entered from a place on
  abbrev pub open_from : Option Prefix → ℕ
  open_from None = 0
  open_from (Some prefix) = open_below (m - prefix.c) prefix.c prefix.set + open_after [] prefix.set

-- what a walk looks for: the committees of k of the tally's m candidates whose value reaches the best
pub record Aim (T : Type 0) : Type 0 where
  pub tally : T
  pub m : ℕ
  pub k : ℕ
  pub best : ℕ

abbrev pub aim_at : {T : Type 0} → T → ℕ → ℕ → ℕ → Aim T
aim_at tally m k best = record { tally = tally; m = m; k = k; best = best }

abbrev pub aim : {T : Type 0} → Walk T → Aim T
aim walk = aim_at walk.tally.now walk.m walk.k walk.best

-- where a walk goes on, and what it has counted
pub record Progress : Type 0 where
  pub place : Option Prefix
  pub entered : ℕ
  pub ceilings : ℕ

abbrev pub progress : {T : Type 0} → Walk T → Progress
progress walk = record { place = walk.place; entered = walk.entered; ceilings = walk.ceilings }

module _ (value : List ℕ → ℕ) (m k best : ℕ) where
  -- whether some committee below the prefix reaches the best value
  abbrev pub is_alive : ℕ → List ℕ → Bool
  is_alive c set = list_any (λ list. nat_le best (value list)) (committees_below m k c set)

  -- An upper bound on the number of bounds asked for from a prefix on until a winner is found, if bounds are exact at
  -- the best value. After the prefix, `past` bounds are asked for.
  abbrev pub waits_at : ℕ → ℕ → List ℕ → ℕ
  waits_at past c set = if is_alive c set then 2 * (m - c) + 1 else 1 + past

  -- the same after those with all of `front` and `list`, if `past` are asked for after those with all of `front`
  abbrev pub waits_after : ℕ → List ℕ → List ℕ → ℕ
  waits_after past front [] = past
  waits_after past front (n ∷ list) = waits_after (waits_at past n front) (front ++ n ∷ []) list

  -- the same from a place on
  abbrev pub waits_from : Option Prefix → ℕ
  waits_from None = 0
  waits_from (Some prefix) = waits_at (waits_after 0 [] prefix.set) prefix.c prefix.set

  -- how many bounds a part of the walk asks for at most, whether it finds a winner or not
  abbrev pub IsWait : Option Prefix → Progress → Option (List ℕ) → Progress → Type 0
  IsWait from before None rest = rest.ceilings + waits_from rest.place ≤ before.ceilings + waits_from from
  IsWait from before (Some set) rest = rest.ceilings ≤ before.ceilings + waits_from from

-- whether a walk asks for the bound of a prefix: the candidates after it can fill up its set
abbrev pub asks : {T : Type 0} → Walk T → Prefix → Bool
asks walk prefix = nat_le walk.k (length prefix.set + (walk.m - prefix.c))

-- whether a walk may enter a prefix
abbrev pub opens : {T : Type 0} → (T → ℕ → List ℕ → ℕ → ℕ) → Walk T → Prefix → Bool
opens bound walk prefix = is_open (bound walk.tally.now) walk.m walk.k walk.best prefix.c prefix.set

-- no committee below the prefix reaches the walk's best value
abbrev pub HasNone : {T : Type 0} → (T → List ℕ → ℕ) → Walk T → Prefix → Type 0
HasNone value walk prefix =
    those_reaching (value walk.tally.now) walk.best (committees_below walk.m walk.k prefix.c prefix.set) ≡ []

-- A part of a walk over the winners: which winner it finds, and where it goes on. Its counts rise: there are at most as
-- many bounds as passed prefixes, and few if bounds are exact at the best value.
pub record IsStride {T : Type 0} (value : T → List ℕ → ℕ) (bound : T → ℕ → List ℕ → ℕ → ℕ) (old : Walk T)
    (from : Option Prefix) (found : Option (List ℕ)) (new : Walk T) : Type 0 where
  pub same : aim new ≡ aim old
  pub next : those_reaching (value old.tally.now) old.best (committees_from old.m old.k from)
      ≡ option_to_list found ++ those_reaching (value old.tally.now) old.best (committees_from old.m old.k new.place)
  pub count : new.entered + open_from (bound old.tally.now) old.m old.k old.best new.place
      ≡ old.entered + open_from (bound old.tally.now) old.m old.k old.best from
  pub entered : old.entered ≤ new.entered
  pub asked : old.ceilings ≤ new.ceilings
  pub work : new.ceilings + work_left old.m new.place ≤ old.ceilings + work_left old.m from
  pub wait : IsExactAtBest (value old.tally.now) (bound old.tally.now) old.m old.k old.best
      → IsWait (value old.tally.now) old.m old.k old.best from (progress old) found (progress new)

-- What a walk has counted. The prefixes entered and those still to be entered are all live ones, and at most m others,
-- which lie on the way to a start.
pub record IsCounted (bound : ℕ → List ℕ → ℕ → ℕ) (m k best : ℕ) (after : Option (List ℕ)) (progress : Progress)
    : Type 0 where
  pub all : live_count bound m k best after ≤ progress.entered + open_from bound m k best progress.place
  pub few : progress.entered + open_from bound m k best progress.place ≤ live_count bound m k best after + m
  pub exact : after ≡ None
      → progress.entered + open_from bound m k best progress.place ≡ live_count bound m k best after
  pub fits : progress.ceilings + work_left m progress.place < 2 ^ 127

-- the first place of a walk over the winners
pub record IsBegun (value : List ℕ → ℕ) (bound : ℕ → List ℕ → ℕ → ℕ) (m k best : ℕ) (after : Option (List ℕ))
    (progress : Progress) : Type 0 where
  pub next : those_reaching value best (committees_from m k progress.place)
      ≡ those_reaching value best (later_than after (increasing_lists 1 m k))
  pub counted : IsCounted bound m k best after progress

-- what is true of each walk over the committees of k of a tally's candidates
pub record IsWalk {T : Type 0} (candidates : T → ℕ) (walk : Walk T) : Type 0 where
  pub m_is : walk.m ≡ candidates walk.tally.now
  pub most : walk.m ≤ most_candidates
  pub some : 1 ≤ walk.k
  pub fits : walk.k ≤ walk.m
  pub place_is : IsPlace walk.m walk.k walk.place
  -- each prefix that was entered has a bound
  pub asked : walk.entered ≤ walk.ceilings

-- what is true of a walk over the winners after a start
pub record IsWinning {T : Type 0} (candidates : T → ℕ) (bound : T → ℕ → List ℕ → ℕ → ℕ) (after : Option (List ℕ))
    (walk : Walk T) : Type 0 where
  pub walk_is : IsWalk candidates walk
  pub counted : IsCounted (bound walk.tally.now) walk.m walk.k walk.best after (progress walk)
