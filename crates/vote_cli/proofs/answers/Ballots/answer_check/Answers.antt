use Rattle.std.proofs.Common.{◌≡◌, ap, false, inl, is_ok, refl, rules, subst}
use Rattle.std.proofs.KnownBytes.{Appends-nil}
use Rattle.vote_cli.specs.Answer.{answered, may_be_checked, violated}
use Rattle.text_output.specs.CheckText.{holds_text, violation_text}
use Rattle.text_output.specs.Steps.Printing.{calls_of}
use Rattle.vote_cli.proofs.RunLemmas.{check_holds, check_violated, writes_answered, writes_part, writes_violated}
use Rattle.vote_cli.proofs.StartLemmas.{may_be_checked-false}
use Rattle.vote_cli.proofs.answers.Ballots.answer_check.Goals as goal

pub returns-in_default-clause-wrote : goal.returns-in_default-clause-wrote
returns-in_default-clause-wrote g c =
    record {
      answer = (
        inl (subst (λ n. may_be_checked n c.args.list.now ≡ false) c.m.ensures.value (may_be_checked-false c.m.result c.args.list.now (c.committee_of.ensures.none (search rules))), refl),
        Appends-nil _,
      );
      writes = refl;
      unread = λ e. cc;
    }

pub returns-in_err-write_holds-clause-wrote : goal.returns-in_err-write_holds-clause-wrote
returns-in_err-write_holds-clause-wrote g c =
    writes_part {contents = g.W.Sink.contents} {calls = calls_of g.W.Device.has_failed g.W.Sink.flushes} _ (answered holds_text) c.from_residual.result
    (check_holds c.args.property c.args.self.now.with_names c.args.self.now.profile.now c.m.result c.args.list.now c.in-Some.committee c.m.ensures.value c.in-Some.ensures.some c.in-Some.ensures.fits.0 c.in-Some.ensures.fits.1 (c.find_violation.ensures.none.0 c.in_default-find_violation.is))
    c.from_residual.ensures (ap is_ok c.in_err-write_holds.was) c.write_holds.ensures

pub returns-in_default-find_violation-clause-wrote :
    goal.returns-in_default-find_violation-clause-wrote
returns-in_default-find_violation-clause-wrote g c =
    writes_answered _ holds_text c.write_holds.result _
    (check_holds c.args.property c.args.self.now.with_names c.args.self.now.profile.now c.m.result c.args.list.now c.in-Some.committee c.m.ensures.value c.in-Some.ensures.some c.in-Some.ensures.fits.0 c.in-Some.ensures.fits.1 (c.find_violation.ensures.none.0 c.in_default-find_violation.is))
    c.in_ok-write_holds.was c.write_holds.ensures

pub returns-in_err-write-clause-wrote :
    goal.returns-in_err-write-clause-wrote
returns-in_err-write-clause-wrote g c =
    let report = c.in-Some-find_violation.violation in
    writes_part {contents = g.W.Sink.contents} {calls = calls_of g.W.Device.has_failed g.W.Sink.flushes} _ (violated (violation_text c.of.result report c.args.self.now.profile.now)) c.from_residual-in_err-write.result
    (check_violated c.args.property c.args.self.now.with_names c.args.self.now.profile.now c.m.result c.args.list.now c.in-Some.committee report c.of.result c.of.ensures c.m.ensures.value c.in-Some.ensures.some c.in-Some.ensures.fits.0 c.in-Some.ensures.fits.1 c.in-Some-find_violation.ensures.some)
    c.from_residual-in_err-write.ensures (ap is_ok c.in_err-write.was) c.write.ensures

pub returns-clause-wrote : goal.returns-clause-wrote
returns-clause-wrote g c =
    let report = c.in-Some-find_violation.violation in
    writes_violated _ (violation_text c.of.result report c.args.self.now.profile.now) c.write.result _
    (check_violated c.args.property c.args.self.now.with_names c.args.self.now.profile.now c.m.result c.args.list.now c.in-Some.committee report c.of.result c.of.ensures c.m.ensures.value c.in-Some.ensures.some c.in-Some.ensures.fits.0 c.in-Some.ensures.fits.1 c.in-Some-find_violation.ensures.some)
    c.in_ok-write.was c.write.ensures
