use Rattle.std.proofs.Common.{◌/◌, ◌^◌, ◌-◌, ◌∙◌, ap}
use Rattle.ballot_base.proofs.NextSet.{ones_shr}
use Rattle.ballot_base.proofs.cand_set.numbers_to.Goals as goal

pub returns : goal.returns
returns c = ap (λ n. (2 ^ 64 - 1) / 2 ^ (64 - n)) c.from.ensures ∙ ones_shr c.args.n 64 c.requires
