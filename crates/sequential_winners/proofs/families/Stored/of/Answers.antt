use Rattle.std.proofs.Common.{◌≡◌, ℕ, ◌++◌, ◌∷◌, [], take, ◌∙◌, cond, List, Option, Some, None, unwrap_or, refl, length, ap, map, sym, subst}
use Rattle.std.proofs.lemmas.List.{map-append, take_all, take_more}
use Rattle.std.proofs.lemmas.Bool.{eq-eqb, ne_eqb}
use Rattle.tie_walk.specs.Steps.Choices.{choices_of}
use Rattle.sequential_winners.specs.Steps.Levels.{end_by, end_or, other_end_by, AreFamilies, AreReached}
use Rattle.sequential_winners.proofs.FamilyLemmas.{last-families, leasts_of, mosts_of}
use Rattle.sequential_winners.proofs.families.Stored.of.Goals as goal
use Rattle.sequential_winners.proofs.families.Stored.of.Goals.{in-Grow, in-Shrink, then-len-k, else-len-k}

pub loop-set-init : goal.loop-set-init
loop-set-init g c = c.clear.ensures.items

or-is : (o : Option (List ℕ)) (set : List ℕ) → unwrap_or o set ≡ end_or set o
or-is None set = refl
or-is (Some last) set = refl

pub loop-set-preserved : goal.loop-set-preserved
loop-set-preserved g c =
    let e = c.args.levels.now.choices.profile.now in
    let rule = c.args.levels.now.choices.rule in
    let k = c.args.k in
    let set = c.set-item.result in
    let made : c.unwrap_or.result ≡ other_end_by rule e k set = elim c.if-len-k.branch [
      | then-len-k w ↦
          let same : length set ≡ k = sym c.len.ensures.count ∙ w.if-len-k.true in
          c.unwrap_or.ensures ∙ ap (λ o. unwrap_or o set) w.end-is ∙ sym (ap (λ b. cond b set (end_or set (end_by rule e set))) (eq-eqb (length set) k same))
      | else-len-k w ↦
          let other : length set ≡ k → ⊥ = λ same. w.if-len-k.false (c.len.ensures.count ∙ same) in
          let found : c.if-len-k.end ≡ end_by rule e set = w.end-is ∙ w.ties_and_end.ensures.end in
          c.unwrap_or.ensures ∙ or-is c.if-len-k.end set ∙ ap (end_or set) found ∙ sym (ap (λ b. cond b set (end_or set (end_by rule e set))) (ne_eqb (length set) k other))
    ] in
    let f = other_end_by rule e k in
    let xs = c.deref-set-items.result.now in
    let i = c.loop-set.set-index in
    c.in_ok-push.ensures.items ∙ ap (λ l. l ++ c.unwrap_or.result ∷ []) c.loop-set.invariant ∙ ap (λ s. map f (take i xs) ++ s ∷ []) made
    ∙ sym (ap (map f) (take_more xs i set c.loop-set-test.true ∙ ap (λ s. take i xs ++ s ∷ []) (sym c.set-item.is)) ∙ map-append f (take i xs) (set ∷ []))

pub returns : goal.returns
returns g c =
    let e = c.args.levels.now.choices.profile.now in
    let rule = c.args.levels.now.choices.rule in
    let k = c.args.k in
    let step = c.step.result in
    let last = c.go_on.new.level in
    let sets = last.sets.items in
    let ends = c.loop-set.ends.items in
    let ends-are : ends ≡ map (other_end_by rule e k) sets =
    c.loop-set.invariant ∙ ap (map (other_end_by rule e k)) (take_all c.loop-set.set-index c.deref-set-items.result.now c.loop-set-test.false ∙ c.deref-set-items.ensures.value) in
    let total : c.choices-total.result ≡ choices_of rule e.m k = c.choices-total.ensures ∙ ap (λ n. choices_of rule n k) c.m.ensures.value in
    let reached = subst (λ n. AreReached rule e c.choices-total.result n sets) c.if-level-total.false c.in_ok-go_on.ensures in
    let all : AreFamilies rule e k (leasts_of step sets ends) (mosts_of step sets ends) =
    last-families rule rule e e k c.choices-total.result step sets ends refl refl c.requires.fits c.m.ensures.valid.ballots c.step.ensures total reached ends-are in
    elim c.match-step.branch [
      | in-Grow w ↦ rw w.leasts-is (subst (λ s. AreFamilies rule e k (leasts_of s sets ends) (mosts_of s sets ends)) w.in-Grow.is all, (rw (c.deref.ensures.value, c.deref-2.ensures.value, w.leasts-is) at c.in_ok-put_blocks.ensures))
      | in-Shrink w ↦ rw w.leasts-is (subst (λ s. AreFamilies rule e k (leasts_of s sets ends) (mosts_of s sets ends)) w.in-Shrink.is all, (rw (c.deref.ensures.value, c.deref-2.ensures.value, w.leasts-is) at c.in_ok-put_blocks.ensures))
    ]
