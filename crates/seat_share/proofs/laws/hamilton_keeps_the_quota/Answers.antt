use Rattle.seat_share.proofs.LawLemmas.{keeps-the_quota}
use Rattle.seat_share.proofs.laws.hamilton_keeps_the_quota.Goals as goal

pub returns : goal.returns
returns c = λ votes allocation seats some fair. keeps-the_quota votes allocation seats some fair
