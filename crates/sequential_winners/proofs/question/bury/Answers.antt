use Rattle.std.proofs.Common.{◌≡◌, ◌++◌, ◌∷◌, ℕ, List, [], Contains, ap, subst, arith, length}
use Rattle.std.proofs.lemmas.List.Elements.{Contains-append_right}
use Rattle.tie_walk.proofs.FoundLemmas.{found-inserted}
use Rattle.sequential_winners.proofs.question.bury.Goals as goal
use Rattle.sequential_winners.proofs.question.bury.Goals.{then-len-ge-MOST_DEAD, else-len-ge-MOST_DEAD}

none-in : (keys : List (List ℕ)) (x : List ℕ) → keys ≡ [] → Contains keys x → ⊥
none-in keys x none inside = omega (arith, inside.1, ap length none)

pub returns-in-Ok : goal.returns-in-Ok
returns-in-Ok g c = λ other inside. rw c.in-Some.is (
    let old = c.in-Some.sets.keys in
    let set = c.args.set in
    let room = c.if-len-ge-MOST_DEAD.sets.keys in
    let here : Contains (room ++ set ∷ []) other = (found-inserted room c.insert.new.self.keys set c.in-Ok.ensures.updates.0 other).0 inside in
    elim c.if-len-ge-MOST_DEAD.branch [
      | then-len-ge-MOST_DEAD w ↦
          let none : room ≡ [] = rw w.sets-is w.clear.ensures.empty in
          Contains-append_right old (set ∷ []) other (subst (λ l. Contains (l ++ set ∷ []) other) none here)
      | else-len-ge-MOST_DEAD w ↦ rw (← w.sets-is) here
    ])

pub returns-in-Err : goal.returns-in-Err
returns-in-Err g c = λ other inside. absurd (none-in c.clear-in-Err.new.self.keys other c.clear-in-Err.ensures.empty inside)
