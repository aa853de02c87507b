use Rattle.seat_share.proofs.LawLemmas.{one-seat_more}
use Rattle.seat_share.proofs.laws.divisor_methods_are_house_monotone.Goals as goal

pub returns : goal.returns
returns c = λ method votes allocation seats other some fair. one-seat_more method votes allocation seats other some fair
