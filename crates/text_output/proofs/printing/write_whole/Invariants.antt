use Rattle.std.proofs.Common.{◌≡◌, ◌≤◌, ◌-◌, length, take}
use Rattle.std.specs.Io.KnownBytes.{Appends}
use Rattle.text_output.specs.Steps.Printing.{calls_of}
use Rattle.text_output.proofs.printing.write_whole.Given as goal

-- the bytes so far went out
abbrev pub invariant-loop-sent : goal.invariant-loop-sent
invariant-loop-sent g l = record {
  within : l.sent ≤ length l.fn.bytes;
  took : Appends (g.W.Sink.contents l.initial.out) (g.W.Sink.contents l.out) (take l.sent l.fn.bytes);
  calls : calls_of g.W.Device.has_failed g.W.Sink.flushes l.out ≡ calls_of g.W.Device.has_failed g.W.Sink.flushes l.initial.out;
}

abbrev pub decreases-loop-sent : goal.decreases-loop-sent
decreases-loop-sent g l = length l.fn.bytes - l.sent
