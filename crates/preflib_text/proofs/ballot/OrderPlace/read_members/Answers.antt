use Rattle.std.proofs.Common.{◌+◌, ◌∷◌, ◌∙◌, ap, sym, refl, cond, Bool, Some, rules, arith, length}
use Rattle.preflib_text.specs.Steps.Tokens.{tokens_after}
use Rattle.preflib_text.specs.Steps.Marks.{takes, with_end}
use Rattle.preflib_text.specs.declared.approvals.Marks.{Marks}
use Rattle.preflib_text.specs.declared.ballot.OrderPlace.TheVariants.{Inner, Between}
use Rattle.preflib_text.proofs.ListedNumbers.{comma_after, brace_after}
use Rattle.preflib_text.proofs.BallotSteps.{read_then, member_read, last_member_read, passed_read, new_number}
use Rattle.preflib_text.proofs.ballot.OrderPlace.read_members.Goals as goal

pub returns-then-is_last-clause-read : goal.returns-then-is_last-clause-read
returns-then-is_last-clause-read c taking is =
    let m = c.args.m in
    let loop = c.loop-n in
    let n = c.in-Some.n in
    let before = c.in-Some.ensures in
    let after = c.in-Some-past_delimiter.after.now in
    let ended = c.end_class.new.self in
    let brace = c.in-Some-past_delimiter.ensures ∙ ap (λ (b : Bool). cond b 125 44 ∷ after) c.if-is_last.true in
    let last = brace_after n loop.rest.now after before.small (before.tokens ∙ ap (tokens_after (Some n)) brace) (omega (arith, before.shorter, ap length brace)) in
    let read = loop.invariant.read taking is in
    let added = new_number m taking loop.marks c.add_new.new.self c.args.taken n (search rules) read.0 c.add_new.ensures in
    read_then m taking c.args.self Between c.after_class.result.place c.args.text.now after c.after_class.result.rest.now c.args.marks.now ended ended
    (read_then m taking c.args.self loop.place Between c.args.text.now loop.rest.now after c.args.marks.now loop.marks ended read.1
    (last_member_read m taking loop.place n loop.rest.now after loop.marks ended c.requires.candidates loop.invariant.inside last (c.end_class.ensures ∙ ap with_end added)))
    (passed_read m taking Between c.after_class.result.place after c.after_class.result.rest.now ended c.after_class.ensures.order c.after_class.ensures.shorter)

pub loop-n-preserved : goal.loop-n-preserved
loop-n-preserved c =
    let m = c.args.m in
    let loop = c.loop-n in
    let n = c.in-Some.n in
    let before = c.in-Some.ensures in
    let after = c.in-Some-past_delimiter.after.now in
    let next = c.add_new.new.self in
    let new = c.add_new.ensures in
    let comma = c.in-Some-past_delimiter.ensures ∙ ap (λ (b : Bool). cond b 125 44 ∷ after) c.if-is_last.false in
    let listed = comma_after n loop.rest.now after before.small (before.tokens ∙ ap (tokens_after (Some n)) comma) (omega (arith, before.shorter, ap length comma)) in
    record {
      read = λ taking is.
          let read = loop.invariant.read taking is in
          let added = new_number m taking loop.marks next c.args.taken n (search rules) read.0 new in (
            read.0 ∙ ap (λ (x : Marks). takes taking x.classes x.before) (sym new),
            read_then m taking c.args.self loop.place Inner c.args.text.now loop.rest.now after c.args.marks.now loop.marks next read.1
                (member_read m taking loop.place n loop.rest.now after loop.marks next c.requires.candidates loop.invariant.inside listed added),
          );
      classes-more = omega (arith, loop.invariant.classes-more, ap (λ (x : Marks). x.classes) new);
      before-more = omega (arith, loop.invariant.before-more, ap (λ (x : Marks). x.before) new);
      classes = omega (arith, loop.invariant.classes, ap (λ (x : Marks). x.classes) new, before.shorter, ap length comma);
      numbers = omega (arith, loop.invariant.numbers, ap (λ (x : Marks). x.before + x.numbers) new, before.shorter, ap length comma);
      inside = refl;
    }
