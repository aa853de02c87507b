use Rattle.std.proofs.lemmas.Grind.{common_steps}
use Rattle.std.proofs.Common.{◌≡◌, sym, subst, arith}
use Rattle.std.specs.List.{range_with_len}
use Rattle.ballot_base.specs.CandSet.{other_members}
use Rattle.ballot_base.proofs.Increasing.{IsIncreasing-with_member}
use Rattle.tie_walk.proofs.BestLemmas.{IsGrowing, growing-begun, growing-kept, growing-found, growing-done}
use Rattle.tie_walk.proofs.best.with_best.Goals as goal

pub loop-n-init : goal.loop-n-init
loop-n-init g c =
    let m = g.T.Tally.candidates c.args.tally.now in
    let all : c.into_iter-n-iterator.result ≡ other_members (range_with_len 1 m) c.args.set = grind (arith, common_steps) in
    subst (IsGrowing m c.args.set 0 c.args.set) (sym all) (growing-begun m c.args.set c.args.set)

pub value-value-requires : goal.value-value-requires
value-value-requires g c = grind (arith, common_steps, IsIncreasing-with_member)

pub loop-n-preserved-then-value-best : goal.loop-n-preserved-then-value-best
loop-n-preserved-then-value-best g c =
    growing-found (g.T.Tally.candidates c.args.tally.now) c.args.set c.value-value.result c.loop-n.best c.in-Some.n c.with-more.result c.loop-n.grown c.loop-n.n-iterator c.next.new.self
    c.in-Some.ensures.steps c.requires.members c.with-more.ensures c.loop-n.invariant

pub loop-n-preserved : goal.loop-n-preserved
loop-n-preserved g c =
    growing-kept (g.T.Tally.candidates c.args.tally.now) c.args.set c.loop-n.best c.value-value.result c.in-Some.n c.loop-n.grown c.loop-n.n-iterator c.next.new.self
    c.in-Some.ensures.steps (omega (arith, c.if-value-best.false)) c.loop-n.invariant

pub returns : goal.returns
returns g c =
    let done = growing-done (g.T.Tally.candidates c.args.tally.now) c.args.set c.loop-n.best c.loop-n.grown c.loop-n.n-iterator c.requires.members c.requires.room c.in-None.ensures.steps.0 c.loop-n.invariant in
    record { candidates = done.0; size = done.1 }
