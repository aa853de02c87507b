-- Which prefixes the count of the live ones counts.
use Rattle.std.proofs.lemmas.Grind.{common_steps}
use Rattle.std.proofs.Common.{◌≡◌, ℕ, zero, suc, ◌+◌, ◌-◌, ◌≤◌, true, List, Option, refl, sym, subst, arith}
use Rattle.std.proofs.lemmas.Bool.{cases_Bool}
use Rattle.ballot_base.specs.Lists.{IsIncreasing}
use Rattle.ballot_base.specs.CandSet.{members_upto}
use Rattle.tie_walk.specs.Ceilings.{Prefix, IsLive, is_open, is_ahead, live_below}
use Rattle.tie_walk.proofs.LiveLemmas.{upto-all, upto-twice, ahead-beginning, live-shut, live-past}

module _ (bound : ℕ → List ℕ → ℕ → ℕ) (m k best : ℕ) (after : Option (List ℕ)) where
  counted : (rest c : ℕ) (set : List ℕ) → is_open bound m k best c set ≡ true → is_ahead m k after c set ≡ true
      → 1 ≤ live_below bound m k best after rest c set
  counted zero c set opened ahead = rw (opened, ahead) (omega arith)
  counted (suc rest) c set opened ahead = rw (opened, ahead) (omega arith)

  -- what is ahead has all its beginnings ahead
  ahead-down : (d c e : ℕ) (set : List ℕ) → e ≡ c + d → is_ahead m k after e (members_upto set e) ≡ true
      → is_ahead m k after c (members_upto set c) ≡ true
  ahead-down zero c e set same is = grind (arith, common_steps)
  ahead-down (suc d) c e set same is =
      let next : e ≡ (c + d) + 1 = omega (arith, same) in
      let last = subst (λ n. is_ahead m k after n (members_upto set n) ≡ true) next is in
      ahead-down d c (c + d) set refl
      (ahead-beginning m k after (c + d) (members_upto set ((c + d) + 1)) (members_upto set (c + d)) (upto-twice (c + d) set) last)

  pub live-counted : (prefix : Prefix) → IsLive bound m k best after prefix → (c : ℕ) → c ≤ prefix.c
      → 1 ≤ live_below bound m k best after (m - c) c (members_upto prefix.set c)
  live-counted prefix live c low =
      let whole = upto-all 1 prefix.c prefix.set live.0 in
      let last : is_ahead m k after prefix.c (members_upto prefix.set prefix.c) ≡ true =
      subst (λ set. is_ahead m k after prefix.c set ≡ true) (sym whole) live.3 in
      counted (m - c) c (members_upto prefix.set c) (live.2 c low)
      (ahead-down (prefix.c - c) c prefix.c prefix.set (omega (arith, low)) last)

  pub counted-live : (prefix : Prefix) → IsIncreasing 1 prefix.c prefix.set → prefix.c ≤ m
      → ((c : ℕ) → c ≤ prefix.c → 1 ≤ live_below bound m k best after (m - c) c (members_upto prefix.set c))
      → IsLive bound m k best after prefix
  counted-live prefix up inside each = grind (arith, common_steps, upto-all, live-past, cases_Bool, live-shut)
