use Rattle.std.proofs.Common.{◌∙◌, sym, subst}
use Rattle.seat_share.specs.Steps.Standings.{IsGreatest}
use Rattle.seat_share.proofs.AwardLemmas.{AreLess, greatest-kept, greatest-new}
use Rattle.seat_share.proofs.award.greater.Goals as goal

pub returns-in-Some : goal.returns-in-Some
returns-in-Some c = λ claims before d count some is found.
    greatest-kept claims before d c.in-Some.first c.args.later some is (sym c.is_at_least.ensures ∙ c.if-is_at_least.true) (subst (IsGreatest claims before) c.in-Some.is found)

pub returns-in_default : goal.returns-in_default
returns-in_default c = λ claims before d count some is found.
    greatest-new claims before d c.args.best c.args.later count some is
    (subst (λ b. AreLess claims b c.args.later) (sym c.in-Some.is) (sym c.is_at_least.ensures ∙ c.if-is_at_least.false)) found

pub returns-in_default-2 : goal.returns-in_default-2
returns-in_default-2 c = λ claims before d count some is found.
    greatest-new claims before d c.args.best c.args.later count some is (subst (λ b. AreLess claims b c.args.later) (sym c.in_default.is) tt) found
