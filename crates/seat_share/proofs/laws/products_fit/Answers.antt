use Rattle.seat_share.proofs.Ranges.{products-fit}
use Rattle.seat_share.proofs.laws.products_fit.Goals as goal

pub returns : goal.returns
returns c = λ method total most v s w t one other. products-fit method total most v s w t one other
