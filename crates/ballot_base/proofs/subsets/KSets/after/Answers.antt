use Rattle.ballot_base.proofs.Committees.{after_place}
use Rattle.ballot_base.proofs.subsets.KSets.after.Goals as goal

pub invariant_of-result : goal.invariant_of-result
invariant_of-result c =
    (after_place c.args.m c.args.k c.args.set c.next_of_size.result c.requires.most c.requires.candidates c.requires.size c.next_of_size.ensures).0

pub returns : goal.returns
returns c =
    (after_place c.args.m c.args.k c.args.set c.next_of_size.result c.requires.most c.requires.candidates c.requires.size c.next_of_size.ensures).1
