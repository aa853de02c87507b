use Rattle.std.proofs.Common.{◌≡◌, ◌==◌, ◌∙◌, ◌+◌, List, [], ℕ, get_or, ap, arith, refl, sym, length, rules, tests}
use Rattle.std.proofs.lemmas.Iterator.{YieldsList-from_range, YieldsList-from_slice}
use Rattle.std.proofs.lemmas.Iterator.Search.{all_from_yields_List}
use Rattle.std.specs.List.{list_all}
use Rattle.tie_walk.specs.Sequences.{sequential_winners}
use Rattle.sequential_winners.specs.Families.{Sequential}
use Rattle.sequential_winners.specs.Steps.Families.{are_apart}
use Rattle.sequential_winners.proofs.PlainLemmas.{plain-winners}
use Rattle.sequential_winners.proofs.families.Families.in_order.Goals as goal

pub returns : goal.returns
returns g c =
    let f = c.self.inside in
    let inv = c.self.invariant in
    let m-is : c.m.result ≡ f.levels.choices.profile.now.m = c.m.ensures.value ∙ sym (ap (λ (x : Sequential). x.election.m) c.self.view_is) in
    let apart : c.all-are_apart.result ≡ are_apart c.m.result f.levels.clones =
    all_from_yields_List (λ x. length (get_or f.levels.clones x []) == 1) _ _ c.all-are_apart.result c.all-are_apart.ensures.ran (YieldsList-from_range 1 (c.m.result + 1) c.m.result refl (omega arith)) (λ x b q k. search (rules, tests)) in
    let sizes : c.all.result ≡ list_all (λ (set : List ℕ). length set == f.k) c.in-Some.stored.leasts.items =
    all_from_yields_List (λ (set : List ℕ). length set == f.k) _ _ c.all.result c.all.ensures.ran (YieldsList-from_slice c.in-Some.stored.leasts.items (c.iter.ensures.rest ∙ c.deref.ensures.value)) (λ x b q k. search (rules, tests)) in
    plain-winners f.levels.choices.rule f.levels.choices.profile.now f.k c.m.result f.levels.clones c.in-Some.stored.leasts.items c.in-Some.stored.mosts.items c.deref-2.result.now m-is c.deref-2.ensures.value (rw c.in-Some.is at inv.1).0 f.levels.classes (sym apart ∙ c.if-not-are_apart.false) (sym sizes ∙ c.if-not-all.false)
    ∙ ap (λ (x : Sequential). sequential_winners x.rule x.election x.k) c.self.view_is
