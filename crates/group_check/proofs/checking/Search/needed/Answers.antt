use Rattle.std.proofs.Common.{◌*◌, arith, length}
use Rattle.ballot_base.specs.Ballots.{voter_count}
use Rattle.group_check.proofs.RefutationLemmas.{rounded_up}
use Rattle.group_check.proofs.checking.Search.needed.Goals as goal

pub returns : goal.returns
returns g c voters =
    let s = c.args.self.now in
    rw (c.div_ceil.ensures, c.from.ensures, c.voters.ensures.value, c.from-2.ensures, c.len.ensures.count)
    (rounded_up (s.level * voter_count s.profile.now.rows) (length s.committee) voters (omega (arith, s.some)))
