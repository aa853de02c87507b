use Rattle.std.proofs.Common.{◌*◌, ◌/◌, ◌∙◌, ap}
use Rattle.std.specs.Prelude.{nat_lt}
use Rattle.std.proofs.lemmas.Bool.{lt-ltb, ltb-true, ltb_from_iff}
use Rattle.std.proofs.Math.Nat.{div-lt_iff_lt-mul}
use Rattle.sequential_winners.proofs.levels.Levels.give_less.Goals as goal

pub returns : goal.returns
returns g c =
    let given = c.given.result in
    let left = c.args.left in
    let best = c.args.best in
    let iff = div-lt_iff_lt-mul c.requires.some in
    ap (nat_lt (given / best)) c.from.ensures
    ∙ ltb_from_iff (λ is. iff.0 (ltb-true (given / best) left is), λ less. lt-ltb (given / best) left (iff.1 less))
    ∙ ap (λ n. nat_lt n (left * best)) c.given.ensures
