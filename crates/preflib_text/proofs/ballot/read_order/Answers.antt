use Rattle.std.proofs.Common.{sym, ap, ◌∙◌, arith, Some, None, cond, Bool, true, false, refl, subst, ◌≡◌, length}
use Rattle.std.specs.Bool.{then_some}
use Rattle.preflib_text.proofs.ListedNumbers.{comma_after}
use Rattle.preflib_text.proofs.BallotTexts.{tokens-trim_start, trim_start-shorter}
use Rattle.preflib_text.proofs.BallotSteps.{marks_fail, marks_last, listed_fail, read_then, token_read, listed_read, passed_read}
use Rattle.preflib_text.specs.declared.ballot.OrderPlace.TheVariants.{Order}
use Rattle.preflib_text.specs.Steps.Tokens.{tokens_of, order_at}
use Rattle.preflib_text.specs.Steps.Marks.{no_marks, IsReadOn}
use Rattle.preflib_text.proofs.ballot.read_order.Goals as goal

pub loop-n-init : goal.loop-n-init
loop-n-init c =
    let text = c.args.text.now in
    let trimmed = c.trim_start-rest.ensures in
    subst (λ marks. IsReadOn c.args.terms.m c.args.terms.taking Order text no_marks Order c.trim_start-rest.result.now marks) (sym c.new-marks.ensures)
    (passed_read c.args.terms.m c.args.terms.taking Order Order text c.trim_start-rest.result.now no_marks
    (ap (order_at Order) (ap tokens_of trimmed ∙ tokens-trim_start text)) (omega (arith, trim_start-shorter text, ap length trimmed)))

pub returns-in_err-place : goal.returns-in_err-place
returns-in_err-place c =
    let loop = c.loop-n in
    rw c.from_residual.ensures (sym (listed_fail c.args.terms.m c.args.terms.taking loop.place c.in-Some.n loop.rest.now c.in-Some.after.now loop.marks (comma_after c.in-Some.n loop.rest.now c.in-Some.after.now c.in-Some.ensures.small c.in-Some.ensures.tokens c.in-Some.ensures.shorter) (sym c.in_err-place.ensures.place)) ∙ loop.invariant.same)

pub loop-n-preserved-in-Some : goal.loop-n-preserved-in-Some
loop-n-preserved-in-Some c =
    let m = c.args.terms.m in
    let taking = c.args.terms.taking in
    let text = c.args.text.now in
    let loop = c.loop-n in
    let place = c.in_ok-place.place in
    let after = c.in-Some.after.now in
    let marks = c.after_listed.new.marks in
    let listed = listed_read m taking loop.place place c.in-Some.n loop.rest.now after loop.marks marks (omega arith) (comma_after c.in-Some.n loop.rest.now after c.in-Some.ensures.small c.in-Some.ensures.tokens c.in-Some.ensures.shorter) (sym c.in_ok-place.ensures.place) c.after_listed.ensures.marks in
    read_then m taking Order place c.read_on.result.place text after c.read_on.result.rest.now no_marks marks c.read_on.new.marks
    (read_then m taking Order loop.place place text loop.rest.now after no_marks loop.marks marks loop.invariant listed) c.read_on.ensures

pub returns-in_err-place-2 : goal.returns-in_err-place-2
returns-in_err-place-2 c =
    let loop = c.loop-n in
    rw c.from_residual-in_err-place-2.ensures (sym (marks_fail c.args.terms.m c.args.terms.taking loop.place c.in-Some-next_token.token loop.rest.now c.in-Some-next_token.after.now loop.marks c.in-Some-next_token.ensures (sym c.in_err-place-2.ensures.place)) ∙ loop.invariant.same)

pub loop-n-preserved : goal.loop-n-preserved
loop-n-preserved c =
    let m = c.args.terms.m in
    let taking = c.args.terms.taking in
    let loop = c.loop-n in
    let place = c.in_ok-place-2.place in
    let after = c.in-Some-next_token.after.now in
    let text = c.args.text.now in
    let marks = c.after.new.marks in
    let read = token_read m taking loop.place place c.in-Some-next_token.token loop.rest.now after loop.marks marks (omega arith) c.in-Some-next_token.ensures (sym c.in_ok-place-2.ensures.place) c.after.ensures.marks in
    read_then m taking Order place c.read_on-in-Some-next_token.result.place text after c.read_on-in-Some-next_token.result.rest.now no_marks marks c.read_on-in-Some-next_token.new.marks
    (read_then m taking Order loop.place place text loop.rest.now after no_marks loop.marks marks loop.invariant read) c.read_on-in-Some-next_token.ensures

then_some_is : {A : Type 0} (b : Bool) (x : A) → then_some b x ≡ cond b (Some x) None
then_some_is true x = refl
then_some_is false x = refl

pub returns-in_default-next_token : goal.returns-in_default-next_token
returns-in_default-next_token c =
    let loop = c.loop-n in
    c.then_some.ensures ∙ then_some_is c.is_end.result loop.marks ∙ ap (λ (b : Bool). cond b (Some loop.marks) None) c.is_end.ensures ∙ sym (marks_last c.args.terms.m c.args.terms.taking loop.place loop.rest.now loop.marks c.in_default-next_token.ensures) ∙ loop.invariant.same
