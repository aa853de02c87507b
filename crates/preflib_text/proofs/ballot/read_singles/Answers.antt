use Rattle.std.proofs.Common.{ap, ◌∙◌, refl, rules, false, arith}
use Rattle.preflib_text.specs.Steps.Marks.{with_end}
use Rattle.preflib_text.specs.declared.approvals.Marks.{Marks}
use Rattle.preflib_text.specs.declared.ballot.OrderPlace.TheVariants.{Class}
use Rattle.preflib_text.proofs.ListedNumbers.{comma_after}
use Rattle.preflib_text.proofs.BallotSteps.{read_then, listed_read, new_number, past_takes, past_later}
use Rattle.preflib_text.proofs.ballot.read_singles.Goals as goal

pub loop-n-preserved : goal.loop-n-preserved
loop-n-preserved c =
    let marks = c.loop-n.marks in
    let rest = c.loop-n.rest.now in
    let after = c.in-Some.after.now in
    let ended = c.end_class.new.self in
    let past = c.loop-n.invariant.past in
    let is = new_number c.args.terms.m c.args.terms.taking marks c.add_new.new.self false c.in-Some.n (search rules) (past_takes c.args.terms.taking marks.classes marks.before past) c.add_new.ensures in
    let listed = comma_after c.in-Some.n rest after c.in-Some.ensures.small c.in-Some.ensures.tokens c.in-Some.ensures.shorter in
    let added = c.add_new.ensures in
    let end = c.end_class.ensures in
    record {
      read = read_then c.args.terms.m c.args.terms.taking Class Class Class c.args.text.now rest after c.args.marks.now marks ended c.loop-n.invariant.read
          (listed_read c.args.terms.m c.args.terms.taking Class Class c.in-Some.n rest after marks ended c.args.terms.few listed refl (c.end_class.ensures ∙ ap with_end is));
      past = past_later c.args.terms.taking marks.classes marks.before ended.classes ended.before
          (omega (arith, ap (λ (x : Marks). x.classes) added, ap (λ (x : Marks). x.classes) end))
          (omega (arith, ap (λ (x : Marks). x.before) added, ap (λ (x : Marks). x.before) end)) past;
    }
