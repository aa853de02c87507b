use Rattle.std.proofs.Common.{◌∙◌, ◌<◌, ◌-◌, arith, length, drop, take, length-drop}
use Rattle.std.proofs.lemmas.List.{take_rest}
use Rattle.text_output.proofs.PrintingLemmas.{same-calls, took-more, within-more, unfailed-write, failed-write, Appends-kept, Appends-none, Passes-part}
use Rattle.text_output.proofs.printing.write_whole.Goals as goal

pub loop-sent-preserved : goal.loop-sent-preserved
loop-sent-preserved g c = record {
  within = within-more c.args.bytes.now c.loop-sent.sent c.in-Ok.n c.loop-sent.invariant.within c.in-Ok.ensures.bound;
  took = took-more _ _ _ c.args.bytes.now c.loop-sent.sent c.in-Ok.n c.loop-sent.invariant.took c.in-Ok.ensures.bytes;
  calls = same-calls _ _ (unfailed-write _ _ c.in-Ok.n _ c.if-n-gt0.true c.in-Ok.ensures.failed) c.in-Ok.ensures.flushes ∙ c.loop-sent.invariant.calls;
}

pub returns-in_default : goal.returns-in_default
returns-in_default g c =
    let some : 0 < length (take (length c.args.bytes.now - c.loop-sent.sent) (drop c.loop-sent.sent c.args.bytes.now)) =
    rw (take_rest c.args.bytes.now c.loop-sent.sent, length-drop c.loop-sent.sent c.args.bytes.now) (omega arith) in
    Passes-part _ _ _ c.args.bytes.now c.loop-sent.sent _ _ c.loop-sent.invariant.took
    (Appends-none _ _ c.in-Ok.n _ c.if-n-gt0.false c.in-Ok.ensures.bytes)
    (failed-write _ _ c.in-Ok.n _ c.if-n-gt0.false some c.in-Ok.ensures.failed)

pub returns-in_default-2 : goal.returns-in_default-2
returns-in_default-2 g c = Passes-part _ _ _ c.args.bytes.now c.loop-sent.sent _ _ c.loop-sent.invariant.took
    (Appends-kept _ _ c.in_default.ensures.bytes) (grind (arith, c.in_default.ensures.failed))
