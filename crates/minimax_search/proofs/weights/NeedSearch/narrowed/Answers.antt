use Rattle.std.proofs.Common.{◌-◌, None, Some}
use Rattle.tie_walk.specs.Values.{closeness}
use Rattle.row_multipliers.specs.Steps.Narrowed.{IsNarrowed}
use Rattle.row_multipliers.proofs.NarrowedLemmas.{narrowed-round}
use Rattle.minimax_search.proofs.weights.NeedSearch.narrowed.Goals as goal
use Rattle.minimax_search.proofs.weights.NeedSearch.narrowed.Goals.{In-Some, else-loop-round-test, then-loop-round-test+in-Some+then-is_too_slow, then-loop-round-test+in-Some+else-is_too_slow+then-square-eq0}

-- those who can still join after a round, of those before it
next : (g : _) (c : In-Some g) → IsNarrowed (closeness c.args.self.now.profile.now.m c.args.self.now.profile.now.rows) c.args.self.now.profile.now.m c.args.node.now.set c.args.node.now.free c.args.node.now.left
    (c.args.self.now.profile.now.m - c.args.self.now.most) c.in-Some.free
next g c =
    let e = c.args.self.now.profile.now in
    let V = closeness e.m e.rows in
    let least = e.m - c.args.self.now.most in
    let inv = c.loop-round.invariant in
    let needs = c.constraint-needs.ensures in
    narrowed-round V e.m c.args.node.now c.loop-round.here least inv.set inv.left inv.narrowed (Some c.in-Some.free)
    (c.in-Some.ensures V e.m least needs.most (rw inv.set inv.is_node) needs.constraint)

pub returns-in_default : goal.returns-in_default
returns-in_default g c =
    let e = c.args.self.now.profile.now in
    let V = closeness e.m e.rows in
    let least = e.m - c.args.self.now.most in
    let inv = c.loop-round.invariant in
    let needs = c.constraint-needs.ensures in
    rw c.end.ensures (narrowed-round V e.m c.args.node.now c.loop-round.here least inv.set inv.left inv.narrowed None (c.in_default.ensures V e.m least needs.most (rw inv.set inv.is_node) needs.constraint))

pub aim-square-requires : goal.aim-square-requires
aim-square-requires g c = record { is_node = rw c.loop-round.invariant.set (next g (goal.at.aim-square-requires g c).In-Some).is_node }

pub loop-round-preserved : goal.loop-round-preserved
loop-round-preserved g c =
    let kept = next g (goal.at.loop-round-preserved g c).In-Some in
    record {
      is_node = kept.is_node;
      set = c.loop-round.invariant.set;
      left = c.loop-round.invariant.left;
      narrowed = kept;
    }

pub returns : goal.returns
returns g c =
    let e = c.args.self.now.profile.now in
    let V = closeness e.m e.rows in
    let node = c.args.node.now in
    let least = e.m - c.args.self.now.most in
    let inv = c.loop-round.invariant in
    let all : IsNarrowed V e.m node.set node.free node.left least c.loop-round-test.here.free = elim c.loop-round-test.branch [
      | else-loop-round-test w ↦ rw w.here-is inv.narrowed
      | then-loop-round-test+in-Some+then-is_too_slow w ↦ rw w.here-is (narrowed-round V e.m node c.loop-round.here least inv.set inv.left inv.narrowed (Some w.in-Some.free)
          (w.in-Some.ensures V e.m least w.constraint-needs.ensures.most (rw inv.set inv.is_node) w.constraint-needs.ensures.constraint))
      | then-loop-round-test+in-Some+else-is_too_slow+then-square-eq0 w ↦ rw w.here-is (narrowed-round V e.m node c.loop-round.here least inv.set inv.left inv.narrowed (Some w.in-Some.free)
          (w.in-Some.ensures V e.m least w.constraint-needs.ensures.most (rw inv.set inv.is_node) w.constraint-needs.ensures.constraint))
    ] in
    rw c.end-2.ensures all
