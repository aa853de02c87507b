use Rattle.ballot_base.proofs.Committees.{first_place}
use Rattle.ballot_base.proofs.subsets.KSets.new.Goals as goal

pub invariant_of-result : goal.invariant_of-result
invariant_of-result c = rw c.all.ensures (first_place c.args.m c.args.k c.requires.most c.requires.fits).0

pub returns : goal.returns
returns c = rw c.all.ensures (first_place c.args.m c.args.k c.requires.most c.requires.fits).1
