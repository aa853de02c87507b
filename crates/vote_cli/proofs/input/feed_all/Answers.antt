use Rattle.std.proofs.Common.{◌≡◌, ◌<◌, ◌∙◌, ◌++◌, [], ap, arith, inr, length, rules, subst, take}
use Rattle.std.proofs.lemmas.List.{length-append}
use Rattle.std.proofs.KnownBytes.{Consumes-trans}
use Rattle.std.specs.Io.KnownBytes.{Consumes}
use Rattle.text_output.specs.Device.{reader_state}
use Rattle.vote_cli.proofs.RunLemmas.{fed_whole, none_left, passed_memory, too_many, unfailed}
use Rattle.vote_cli.proofs.input.feed_all.Goals as goal

pub loop-count-preserved : goal.loop-count-preserved
loop-count-preserved g c =
    let piece = take c.in-Ok.count c.read.new.buf in
    let all = ap length c.feed_piece.ensures.fed ∙ length-append c.loop-count.lines.fed piece in
    record {
      read = rw c.feed_piece.ensures.fed (Consumes-trans _ _ _ c.loop-count.lines.fed piece c.loop-count.invariant.read c.in-Ok.ensures.bytes.0);
      given = omega (arith, all, c.in-Ok.ensures.bound.1, c.loop-count.invariant.given, c.in-Ok.ensures.given);
      unfailed = unfailed _ _ _ c.loop-count.invariant.unfailed c.in-Ok.ensures.failed;
      pick = search rules;
      left = omega (arith, all, c.in-Ok.ensures.bound.1, c.loop-count.invariant.left, c.if-count-left.false);
    }

-- more bytes than may be fed
pub returns-then-count-left-clause-reads : goal.returns-then-count-left-clause-reads
returns-then-count-left-clause-reads g c =
    let fed = c.loop-count.lines.fed in
    let piece = take c.in-Ok.count c.read.new.buf in
    inr (
      unfailed _ _ _ c.loop-count.invariant.unfailed c.in-Ok.ensures.failed,
      omega (arith, length-append fed piece, c.in-Ok.ensures.bound.1, c.loop-count.invariant.left, c.if-count-left.true, c.loop-count.invariant.given, c.in-Ok.ensures.given),
      too_many _ _ (fed ++ piece)
          (Consumes-trans _ _ _ fed piece c.loop-count.invariant.read c.in-Ok.ensures.bytes.0)
          (omega (arith, length-append fed piece, c.in-Ok.ensures.bound.1, c.loop-count.invariant.left, c.if-count-left.true)),
    )

pub returns-then-count-eq0-clause-bytes : goal.returns-then-count-eq0-clause-bytes
returns-then-count-eq0-clause-bytes g c =
    let none : take c.in-Ok.count c.read.new.buf ≡ [] = ap (λ n. take n c.read.new.buf) c.if-count-eq0.true in
    let room : 0 < length c.read.new.buf = search rules in
    fed_whole _ _ _ c.loop-count.lines.fed c.loop-count.invariant.read
    (subst (Consumes (g.R.Source.remaining c.loop-count.reader) (g.R.Source.remaining c.read.new.self)) none c.in-Ok.ensures.bytes.0)
    (c.in-Ok.ensures.bytes.1 c.if-count-eq0.true room)

pub returns-then-count-eq0-clause-reads : goal.returns-then-count-eq0-clause-reads
returns-then-count-eq0-clause-reads g c =
    let none : take c.in-Ok.count c.read.new.buf ≡ [] = ap (λ n. take n c.read.new.buf) c.if-count-eq0.true in
    let room : 0 < length c.read.new.buf = search rules in (
      record {
        unfailed = unfailed _ _ _ c.loop-count.invariant.unfailed c.in-Ok.ensures.failed;
        few = omega (arith, c.if-count-eq0.true, c.loop-count.invariant.left, c.loop-count.invariant.given, c.in-Ok.ensures.given);
      },
      none_left _ _ _ c.loop-count.lines.fed c.loop-count.invariant.read
          (subst (Consumes (g.R.Source.remaining c.loop-count.reader) (g.R.Source.remaining c.read.new.self)) none c.in-Ok.ensures.bytes.0)
          (c.in-Ok.ensures.bytes.1 c.if-count-eq0.true room),
    )

-- memory ran out for a piece that was read
pub returns-in_err-feed_piece-clause-reads : goal.returns-in_err-feed_piece-clause-reads
returns-in_err-feed_piece-clause-reads g c =
    let old = reader_state g.R.Source.remaining g.R.Device.has_failed g.R.Source.given c.args.reader.now in
    let new = reader_state g.R.Source.remaining g.R.Device.has_failed g.R.Source.given c.read.new.self in
    passed_memory old new c.in_err-feed_piece.field-0.0 c.from_residual.result c.in_err-feed_piece.ensures.memory c.from_residual.ensures
    (record {
      unfailed = unfailed _ _ _ c.loop-count.invariant.unfailed c.in-Ok.ensures.failed;
      few = omega (arith, c.in-Ok.ensures.bound.1, c.if-count-left.false, c.loop-count.invariant.left, c.loop-count.invariant.given, c.in-Ok.ensures.given);
    })
