use Rattle.std.proofs.Common.{None, Some}
use Rattle.row_multipliers.specs.Steps.Narrowed.{IsNarrowed}
use Rattle.row_multipliers.proofs.NarrowedLemmas.{narrowed-round}
use Rattle.row_multipliers.proofs.multipliers.narrowed.Goals as goal
use Rattle.row_multipliers.proofs.multipliers.narrowed.Goals.{In-Some, else-loop-round-test, then-loop-round-test+in-Some+in-End, then-loop-round-test+in-Some+then-square-eq0}

pub returns-in_default : goal.returns-in_default
returns-in_default g c =
    let V = g.B.RowBound.value_of c.args.bound.now in
    let m = g.B.RowBound.candidates c.args.bound.now in
    let least = g.B.RowBound.least c.args.bound.now in
    let inv = c.loop-round.invariant in
    let here = c.in_default.ensures V m least c.constraint-constraint.ensures.most (rw inv.set inv.is_node) c.constraint-constraint.ensures.constraint in
    rw c.end.ensures (narrowed-round V m c.args.node.now c.loop-round.here least inv.set inv.left inv.narrowed None here)

-- those who can still join after a round
next : (g : _) (c : In-Some g) → IsNarrowed (g.B.RowBound.value_of c.args.bound.now) (g.B.RowBound.candidates c.args.bound.now) c.args.node.now.set c.args.node.now.free c.args.node.now.left
    (g.B.RowBound.least c.args.bound.now) c.in-Some.free
next g c =
    let V = g.B.RowBound.value_of c.args.bound.now in
    let m = g.B.RowBound.candidates c.args.bound.now in
    let least = g.B.RowBound.least c.args.bound.now in
    let inv = c.loop-round.invariant in
    let here = c.in-Some.ensures V m least c.constraint-constraint.ensures.most (rw inv.set inv.is_node) c.constraint-constraint.ensures.constraint in
    narrowed-round V m c.args.node.now c.loop-round.here least inv.set inv.left inv.narrowed (Some c.in-Some.free) here

pub aim-square-requires : goal.aim-square-requires
aim-square-requires g c = record { is_node = rw c.loop-round.invariant.set (next g (goal.at.aim-square-requires g c).In-Some).is_node }

pub loop-round-preserved : goal.loop-round-preserved
loop-round-preserved g c =
    let kept = next g (goal.at.loop-round-preserved g c).In-Some in
    record {
      is_node = kept.is_node;
      set = c.loop-round.invariant.set;
      left = c.loop-round.invariant.left;
      narrowed = kept;
    }

pub returns : goal.returns
returns g c =
    let V = g.B.RowBound.value_of c.args.bound.now in
    let m = g.B.RowBound.candidates c.args.bound.now in
    let node = c.args.node.now in
    let least = g.B.RowBound.least c.args.bound.now in
    let inv = c.loop-round.invariant in
    let all : IsNarrowed V m node.set node.free node.left least c.loop-round-test.here.free = elim c.loop-round-test.branch [
      | else-loop-round-test w ↦ rw w.here-is inv.narrowed
      | then-loop-round-test+in-Some+in-End w ↦ rw w.here-is (narrowed-round V m node c.loop-round.here least inv.set inv.left inv.narrowed (Some w.in-Some.free)
          (w.in-Some.ensures V m least w.constraint-constraint.ensures.most (rw inv.set inv.is_node) w.constraint-constraint.ensures.constraint))
      | then-loop-round-test+in-Some+then-square-eq0 w ↦ rw w.here-is (narrowed-round V m node c.loop-round.here least inv.set inv.left inv.narrowed (Some w.in-Some.free)
          (w.in-Some.ensures V m least w.constraint-constraint.ensures.most (rw inv.set inv.is_node) w.constraint-constraint.ensures.constraint))
    ] in
    rw c.end-2.ensures all
