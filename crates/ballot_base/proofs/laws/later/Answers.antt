use Rattle.ballot_base.proofs.Later.{later_than-end, later_than-member}
use Rattle.ballot_base.proofs.laws.later.Goals as goal

pub returns : goal.returns
returns c = record { end = later_than-end; after = λ before after start. later_than-member before start after }
