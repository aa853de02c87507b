use Rattle.std.proofs.Common.{◌*◌, arith}
use Rattle.group_check.proofs.TestLemmas.{nothing_there}
use Rattle.group_check.proofs.ChargeLemmas.{too_few_agree}
use Rattle.group_check.proofs.checking.Search.cannot_agree.Goals as goal

pub returns : goal.returns
returns g c h =
    let s = c.args.self.now in
    let none = nothing_there c.members_for.result c.is_none.result c.is_none.ensures h in
    too_few_agree s.property s.profile.now s.committee s.level c.args.choices.now c.args.agreement.now c.args.voters c.needed.result (c.from.result * c.from-2.result) c.saturating_sub-due.result
    c.charges-charges.result c.len.ensures.valid c.requires c.needed.ensures c.charges-charges.ensures.charges
    (rw c.from-2.ensures (omega (arith, c.from.ensures, c.saturating_sub.ensures)))
    (omega (arith, c.saturating_sub-due.ensures, c.excess.ensures.sum))
    (rw none at c.members_for.ensures)
