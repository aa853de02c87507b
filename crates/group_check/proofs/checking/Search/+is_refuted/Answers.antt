use Rattle.std.proofs.Common.{◌∙◌, arith, sym, not}
use Rattle.ballot_base.specs.CandSet.{has_member, without_member}
use Rattle.group_check.proofs.CloneLemmas.{length-kept}
use Rattle.group_check.proofs.RefutationLemmas.{fewer-without, member-bounds, open-with_candidate, open-without_candidate, open-with_member, open-without_member, split_candidate, split_member}
use Rattle.group_check.proofs.checking.Search.+is_refuted.Goals as goal
use Rattle.group_check.proofs.checking.Search.+is_refuted.Goals.{then-choices-eq0, else-choices-eq0}

pub class-requires : goal.class-requires
class-requires g t c =
    let bounds = member-bounds 1 c.args.self.now.profile.now.m c.args.choices.pool c.in-Candidate.candidate c.requires.rises c.in-Candidate.ensures.finding.0 in
    omega (arith, bounds.1, c.finding.ensures.valid.most)

pub with_candidate-requires-clause-low : goal.with_candidate-requires-clause-low
with_candidate-requires-clause-low g t c =
    (member-bounds 1 c.args.self.now.profile.now.m c.args.choices.pool c.in-Candidate.candidate c.requires.rises c.in-Candidate.ensures.finding.0).0

pub with_candidate-requires-clause-high : goal.with_candidate-requires-clause-high
with_candidate-requires-clause-high g t c =
    let bounds = member-bounds 1 c.args.self.now.profile.now.m c.args.choices.pool c.in-Candidate.candidate c.requires.rises c.in-Candidate.ensures.finding.0 in
    omega (arith, bounds.1, c.finding.ensures.valid.most)

pub is_refuted-requires-in-Candidate : goal.is_refuted-requires-in-Candidate
is_refuted-requires-in-Candidate g t c κs within =
    let s = c.args.self.now in
    let n = c.in-Candidate.candidate in
    let rest = without_member c.args.choices.pool n in
    let fewer = fewer-without c.args.choices.pool n c.in-Candidate.ensures.finding.0 in
    let kept = length-kept (λ x. not (has_member c.class.result x)) rest in (
      rw (c.minus-pool.ensures, c.without-rest.ensures) (omega (arith, fewer, kept, c.decreases)),
      (within, rw (c.minus-pool.ensures, c.without-rest.ensures) (open-without_candidate s.profile.now.m s.committee c.args.choices c.requires n c.class.result)),
    )

pub is_refuted-requires-then-is_refuted : goal.is_refuted-requires-then-is_refuted
is_refuted-requires-then-is_refuted g t c κs within =
    let s = c.args.self.now in
    let n = c.in-Candidate.candidate in
    let fewer = fewer-without c.args.choices.pool n c.in-Candidate.ensures.finding.0 in (
      rw c.with_candidate.ensures (omega (arith, fewer, c.decreases)),
      (within, rw c.with_candidate.ensures (open-with_candidate s.profile.now.m s.committee c.args.choices c.requires n)),
    )

pub with_member-requires-clause-low : goal.with_member-requires-clause-low
with_member-requires-clause-low g t c =
    let s = c.args.self.now in
    (member-bounds 1 s.profile.now.m s.committee c.in-Member.member s.candidates (c.requires.among c.in-Member.member c.in-Member.ensures.finding)).0

pub with_member-requires-clause-high : goal.with_member-requires-clause-high
with_member-requires-clause-high g t c =
    let s = c.args.self.now in
    let bounds = member-bounds 1 s.profile.now.m s.committee c.in-Member.member s.candidates (c.requires.among c.in-Member.member c.in-Member.ensures.finding) in
    omega (arith, bounds.1, c.finding.ensures.valid.most)

pub is_refuted-requires-else-choices-eq0 : goal.is_refuted-requires-else-choices-eq0
is_refuted-requires-else-choices-eq0 g t c κs within =
    let s = c.args.self.now in
    let n = c.in-Member.member in
    let fewer = fewer-without c.args.choices.members n c.in-Member.ensures.finding in (
      rw c.with_member.ensures (omega (arith, fewer, c.decreases)),
      (within, rw c.with_member.ensures (open-with_member s.profile.now.m s.committee c.args.choices c.requires n)),
    )

pub is_refuted-requires-then-is_refuted-2 : goal.is_refuted-requires-then-is_refuted-2
is_refuted-requires-then-is_refuted-2 g t c κs within =
    let s = c.args.self.now in
    let n = c.in-Member.member in
    let fewer = fewer-without c.args.choices.members n c.in-Member.ensures.finding in (
      rw c.without-members.ensures (omega (arith, fewer, c.decreases)),
      (within, rw c.without-members.ensures (open-without_member s.profile.now.m s.committee c.args.choices c.requires n)),
    )

pub returns-then-is_refuted : goal.returns-then-is_refuted
returns-then-is_refuted g t c h =
    let s = c.args.self.now in
    let n = c.in-Candidate.candidate in
    let bounds = member-bounds 1 s.profile.now.m c.args.choices.pool n c.requires.rises c.in-Candidate.ensures.finding.0 in
    split_candidate s.property s.profile.now s.committee s.level c.args.choices n c.class.result (c.class.ensures ∙ s.classes n bounds.0 bounds.1)
    (rw c.with_candidate.ensures at (c.is_refuted-then-is_refuted.ensures h))
    (rw (c.minus-pool.ensures, c.without-rest.ensures) at (c.is_refuted-in-Candidate.ensures c.if-is_refuted.true))

pub returns-then-is_refuted-2 : goal.returns-then-is_refuted-2
returns-then-is_refuted-2 g t c h =
    let s = c.args.self.now in
    split_member s.property s.profile.now s.committee s.level c.args.choices c.in-Member.member
    (λ some. elim c.if-choices-eq0.branch [
      | then-choices-eq0 w ↦ absurd (omega (arith, some, w.if-choices-eq0.true))
      | else-choices-eq0 w ↦ rw w.with_member.ensures at (w.is_refuted-else-choices-eq0.ensures (sym w.value-is ∙ c.if-is_refuted-2.true))
    ])
    (rw c.without-members.ensures at (c.is_refuted-then-is_refuted-2.ensures h))
