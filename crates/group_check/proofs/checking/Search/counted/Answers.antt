use Rattle.std.proofs.Common.{◌∙◌}
use Rattle.group_check.proofs.CountedLemmas.{counted_is}
use Rattle.group_check.proofs.checking.Search.counted.Goals as goal

pub returns : goal.returns
returns g c =
    let s = c.args.self.now in
    rw c.is_enough.ensures at c.then_some.ensures
    ∙ counted_is s.property s.profile.now s.committee s.level c.args.shared c.args.within s.candidates s.least s.most c.requires.shared c.requires.within
    c.supporting_voters.result c.supporting_voters.ensures.group
