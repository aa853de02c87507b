use Rattle.std.proofs.Common.{◌≡◌, ◌∙◌, Some, sym, ap, arith, length}
use Rattle.tie_walk.specs.Steps.Choices.{choices_of}
use Rattle.sequential_winners.specs.Steps.Levels.{end_by}
use Rattle.sequential_winners.proofs.WinnerLemmas.{end-size}
use Rattle.sequential_winners.proofs.levels.Levels.ahead.Goals as goal

pub choices-requires : goal.choices-requires
choices-requires g c =
    let s = c.args.self.now.choices in
    let size = end-size s.rule s.profile.now c.args.set c.in-Some.end c.m.ensures.valid.ballots c.requires (sym c.ties_and_end-best.ensures.end ∙ c.in-Some.is) in
    omega (arith, size.0, c.len.ensures.count, c.m.ensures.value)

pub returns-else-choices-total : goal.returns-else-choices-total
returns-else-choices-total g c =
    let s = c.args.self.now.choices in
    let e = s.profile.now in
    let last = c.in-Some.end in
    let is : end_by s.rule e c.args.set ≡ Some last = sym c.ties_and_end-best.ensures.end ∙ c.in-Some.is in
    let size = end-size s.rule e c.args.set last c.m.ensures.valid.ballots c.requires is in
    (is, omega (arith, size.1, c.choices.ensures, c.if-choices-total.false, ap (λ n. choices_of s.rule n (length last)) c.m.ensures.value, ap (choices_of s.rule c.m.result) c.len.ensures.count))

pub returns-then-choices-total : goal.returns-then-choices-total
returns-then-choices-total g c =
    let s = c.args.self.now.choices in
    let e = s.profile.now in
    let last = c.in-Some.end in
    let is : end_by s.rule e c.args.set ≡ Some last = sym c.ties_and_end-best.ensures.end ∙ c.in-Some.is in
    let size = end-size s.rule e c.args.set last c.m.ensures.valid.ballots c.requires is in
    (is, omega (arith, size.1, c.choices.ensures, c.if-choices-total.true, ap (λ n. choices_of s.rule n (length last)) c.m.ensures.value, ap (choices_of s.rule c.m.result) c.len.ensures.count))
