use Rattle.std.proofs.Common.{sym, ◌∙◌, ◌+◌, arith, refl}
use Rattle.group_check.specs.Groups.{HasProperty}
use Rattle.group_check.proofs.CountedLemmas.{greatest_level-le}
use Rattle.group_check.proofs.ReportLemmas.{none_more, has_property, report_found, lacks_property}
use Rattle.group_check.proofs.checking.find_violation.Goals as goal
use Rattle.group_check.proofs.checking.find_violation.Goals.{else-loop-level-test, then-loop-level-test+else-is_some+else-level-level-end}

pub returns-then-is_some-clause-none : goal.returns-then-is_some-clause-none
returns-then-is_some-clause-none g c =
    let great = greatest_level-le c.args.property c.args.committee c.requires.some in
    lacks_property c.args.property c.args.profile.now c.args.committee c.loop-level.level c.first-found.result c.loop-level.auto.level
    (omega (arith, great, c.loop-level-test.true, c.greatest_level-level-end.ensures)) c.first-found.ensures (sym c.is_some.ensures ∙ c.if-is_some.true)

pub returns-then-is_some-clause-some : goal.returns-then-is_some-clause-some
returns-then-is_some-clause-some g c =
    let great = greatest_level-le c.args.property c.args.committee c.requires.some in
    report_found c.args.property c.args.profile.now c.args.committee c.loop-level.level c.first-found.result c.loop-level.auto.level
    (omega (arith, great, c.loop-level-test.true, c.greatest_level-level-end.ensures)) c.first-found.ensures (sym c.is_some.ensures ∙ c.if-is_some.true) c.loop-level.invariant

pub loop-level-preserved : goal.loop-level-preserved
loop-level-preserved g c =
    let great = greatest_level-le c.args.property c.args.committee c.requires.some in
    none_more c.args.property c.args.profile.now c.args.committee c.loop-level.level c.first-found.result c.requires.candidates c.loop-level.auto.level
    (omega (arith, great, c.loop-level-test.true, c.greatest_level-level-end.ensures)) c.first-found.ensures (sym c.is_some.ensures ∙ c.if-is_some.false) c.loop-level.invariant

pub returns-clause-none : goal.returns-clause-none
returns-clause-none g c =
    let great = greatest_level-le c.args.property c.args.committee c.requires.some in
    let has : HasProperty c.args.property c.args.profile.now c.args.committee = elim c.loop-level-test.branch [
      | else-loop-level-test w ↦
          has_property c.args.property c.args.profile.now c.args.committee c.loop-level.level (omega (arith, w.loop-level-test.false, c.greatest_level-level-end.ensures)) c.loop-level.invariant
      | then-loop-level-test+else-is_some+else-level-level-end w ↦
          has_property c.args.property c.args.profile.now c.args.committee (c.loop-level.level + 1) (omega (arith, c.greatest_level-level-end.ensures))
          (none_more c.args.property c.args.profile.now c.args.committee c.loop-level.level w.first-found.result c.requires.candidates c.loop-level.auto.level
          (omega (arith, great, w.loop-level-test.true, c.greatest_level-level-end.ensures)) w.first-found.ensures (sym w.is_some.ensures ∙ w.if-is_some.false) c.loop-level.invariant)
    ] in
    ((λ _. has), (λ _. refl))
