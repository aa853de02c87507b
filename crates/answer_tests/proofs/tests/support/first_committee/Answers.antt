use Rattle.std.proofs.Common.{arith}
use Rattle.std.proofs.lemmas.List.FromFn.{length-range_with_len}
use Rattle.tie_walk.proofs.LawLemmas.{IsIncreasing-range}
use Rattle.answer_tests.proofs.tests.support.first_committee.Goals as goal

pub returns : goal.returns
returns c = rw c.all.ensures (IsIncreasing-range 1 c.args.k c.args.m (omega (arith, c.requires.fits)), length-range_with_len 1 c.args.k)
