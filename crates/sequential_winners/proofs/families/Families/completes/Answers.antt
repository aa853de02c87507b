use Rattle.std.proofs.Common.{◌≡◌, ◌-◌, ◌≤◌, ◌∙◌, sym, ap, subst, arith, length}
use Rattle.sequential_winners.specs.Families.{Sequential, some_winner}
use Rattle.sequential_winners.proofs.ValueLemmas.{never-completes}
use Rattle.sequential_winners.proofs.families.Families.completes.Goals as goal

pub returns-then-self-len : goal.returns-then-self-len
returns-then-self-len g c =
    let s : Sequential = c.args.self.now in
    sym (never-completes s (subst (λ (t : Sequential). t.k ≤ t.election.m) c.self.view_is c.self.invariant.0.fits) c.args.c c.args.set c.args.left
    (λ size. c.if-self-len.true (omega (arith, size, ap (λ (t : Sequential). t.k) c.self.view_is, c.len.ensures.count))))

pub returns-in-Some : goal.returns-in-Some
returns-in-Some g c =
    let s : Sequential = c.args.self.now in
    let left : s.k - length c.args.set ≡ c.args.left = omega (arith, c.if-self-len.false, ap (λ (t : Sequential). t.k) c.self.view_is, c.len.ensures.count) in
    c.is_in_some.ensures ∙ ap (some_winner s c.args.c c.args.set) left

pub returns-in-None : goal.returns-in-None
returns-in-None g c =
    let s : Sequential = c.args.self.now in
    let left : s.k - length c.args.set ≡ c.args.left = omega (arith, c.if-self-len.false, ap (λ (t : Sequential). t.k) c.self.view_is, c.len.ensures.count) in
    c.is_reached.ensures ∙ ap (some_winner s c.args.c c.args.set) left
