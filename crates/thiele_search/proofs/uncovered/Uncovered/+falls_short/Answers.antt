use Rattle.std.proofs.Common.{◌≡◌, ◌+◌, ◌<◌, ◌∙◌, ℕ, None, Some, true, refl, sym, ap, arith, get_or, get_or-set_other, length}
use Rattle.ballot_base.specs.CandSet.{has_member, without_member}
use Rattle.ballot_base.specs.Increments.{increments}
use Rattle.ballot_base.specs.Worths.{AreWanted}
use Rattle.ballot_base.specs.declared.increments.ThieleRule.TheVariants.{Cc}
use Rattle.ballot_base.proofs.Sums.{length-among}
use Rattle.row_multipliers.specs.Steps.Narrowed.{IsNarrowed}
use Rattle.row_multipliers.proofs.CompletionLemmas.{member-high, node-without, without-is, without-not, without-shorter}
use Rattle.row_multipliers.proofs.NarrowedLemmas.{narrowed-more, narrowed-none, narrowed-out}
use Rattle.tie_walk.specs.Values.{thiele_value}
use Rattle.thiele_search.specs.Steps.Uncovered.{IsBranch, newly, uncovered_voters}
use Rattle.thiele_search.proofs.UncoveredLemmas.{branch-fewer, branch-gain, branch-leaves, branch-narrows, few-set}
use Rattle.thiele_search.proofs.uncovered.Uncovered.+falls_short.Goals as goal
use Rattle.thiele_search.proofs.uncovered.Uncovered.+falls_short.Goals.{After-has, After-keep-kept}

pub loop-least-init : goal.loop-least-init
loop-least-init g t c =
    let branch = c.args.branch.now in
    let e = c.args.self.now.profile.now in
    record {
      set = refl;
      left = refl;
      due = refl;
      branch = c.requires.branch;
      gains = c.gains-gains.ensures.each;
      few = c.gains-gains.ensures.few;
      narrowed = λ k some size.
          let V = thiele_value (increments Cc k) e.rows in
          narrowed-none V e.m branch.set branch.free branch.left (V branch.set + branch.due) c.requires.branch.is_node;
    }

-- those who are kept are all who are wanted
wanted : (g : _) (t : _) (c : After-keep-kept g t) → AreWanted (λ n. get_or c.loop-least.gains n 0) c.loop-least.open.free c.loop-least.open.left c.loop-least.open.due c.keep-kept.result.free
wanted g t c = rw c.keep-kept.ensures.free c.in-Some.ensures

-- the branch with those who are kept
kept : (g : _) (t : _) (c : After-keep-kept g t) → IsBranch c.args.self.now.profile.now c.args.self.now.set c.args.self.now.free
    record { set = c.loop-least.open.set; free = c.keep-kept.result.free; left = c.loop-least.open.left; due = c.loop-least.open.due; voters = c.loop-least.open.voters }
kept g t c =
    let table = c.args.self.now in
    let branch = c.loop-least.invariant.branch in
    branch-fewer table.profile.now table.set table.free c.loop-least.open c.keep-kept.result.free branch ((wanted g t c).rises table.profile.now.m branch.is_node.free_within) (wanted g t c).among

-- their gains
kept-gains : (g : _) (t : _) (c : After-keep-kept g t) → (n : ℕ) → has_member c.keep-kept.result.free n ≡ true
    → get_or c.keep-kept.new.gains n 0 ≡ newly (uncovered_voters c.args.self.now.profile.now.rows c.args.self.now.set c.args.self.now.free) c.loop-least.open.set n
kept-gains g t c n is = c.keep-kept.ensures.same n is ∙ c.loop-least.invariant.gains n ((wanted g t c).among n is)

-- the next to be tried is one of the candidates
next-low : (g : _) (t : _) (c : After-has g t) → c.has.result ≡ true → c.keep-kept.result.best < 65
next-low g t c is =
    let branch = kept g t (goal.at.After-has g t c).After-keep-kept in
    omega (
      arith,
      member-high 1 c.args.self.now.profile.now.m c.keep-kept.result.free c.keep-kept.result.best branch.is_node.free_within (sym c.has.ensures ∙ is),
      branch.valid.most,
    )

pub bounds-gains-from : goal.bounds-gains-from
bounds-gains-from g t c = omega (arith, c.from.ensures, next-low g t (goal.at.bounds-gains-from g t c).After-has c.if-not-has.false)

pub bounds-gains-from-in-Some : goal.bounds-gains-from-in-Some
bounds-gains-from-in-Some g t c = omega (arith, c.from-in-Some.ensures, next-low g t (goal.at.bounds-gains-from-in-Some g t c).After-has c.if-not-has.false)

pub bounds-gains-from-in-Some-2 : goal.bounds-gains-from-in-Some-2
bounds-gains-from-in-Some-2 g t c = omega (arith, c.from-in-Some-2.ensures, next-low g t (goal.at.bounds-gains-from-in-Some-2 g t c).After-has c.if-not-has.false)

pub child-child-requires-clause-branch : goal.child-child-requires-clause-branch
child-child-requires-clause-branch g t c = kept g t (goal.at.child-child-requires-clause-branch g t c).After-keep-kept

pub child-child-requires-clause-some : goal.child-child-requires-clause-some
child-child-requires-clause-some g t c = omega (arith, c.loop-least.invariant.left, c.if-branch-eq0.false)

pub falls_short-requires : goal.falls_short-requires
falls_short-requires g t c κs within =
    let left = c.loop-least.invariant.left in (
      omega (arith, c.decreases, c.child-child.ensures.left, left, c.if-branch-eq0.false),
      (within, (c.child-child.ensures.branch, omega (arith, c.child-child.ensures.left, left, c.requires.few))),
    )

pub loop-least-smaller : goal.loop-least-smaller
loop-least-smaller g t c =
    let m = c.args.self.now.profile.now.m in
    let branch = kept g t (goal.at.loop-least-smaller g t c).After-keep-kept in
    omega (
      arith,
      ap length c.without-open.ensures,
      without-shorter c.keep-kept.result.free c.keep-kept.result.best (sym c.has.ensures ∙ c.if-not-has.false),
      length-among m c.keep-kept.result.free c.loop-least.open.free branch.is_node.free_within c.loop-least.invariant.branch.is_node.free_within (wanted g t (goal.at.loop-least-smaller g t c).After-keep-kept).among,
    )

pub loop-least-preserved : goal.loop-least-preserved
loop-least-preserved g t c =
    let table = c.args.self.now in
    let e = table.profile.now in
    let open_ = c.loop-least.open in
    let inv = c.loop-least.invariant in
    let next = c.keep-kept.result.best in
    let free = c.keep-kept.result.free in
    let here : has_member free next ≡ true = sym c.has.ensures ∙ c.if-not-has.false in
    let branch = kept g t (goal.at.loop-least-preserved g t c).After-keep-kept in
    let gains = kept-gains g t (goal.at.loop-least-preserved g t c).After-keep-kept in
    rw c.without-open.ensures record {
      set = inv.set;
      left = inv.left;
      due = inv.due;
      branch = branch-fewer e table.set table.free record { set = open_.set; free = free; left = open_.left; due = open_.due; voters = open_.voters } (without_member free next) branch
          (node-without e.m open_.set free next branch.is_node).free_within (without-is free next);
      gains = λ n is.
          get_or-set_other c.keep-kept.new.gains c.from-in-Some-2.result n 0 0 (λ same. without-not free next n is (same ∙ c.from-in-Some-2.ensures))
          ∙ gains n (without-is free next n is);
      few = few-set c.keep-kept.new.gains c.from-in-Some-2.result 0 (omega arith) c.keep-kept.ensures.few;
      narrowed = λ k some size.
          let V = thiele_value (increments Cc k) e.rows in
          let least = V open_.set + open_.due in
          let fewer : IsNarrowed V e.m open_.set open_.free open_.left least free =
          branch-narrows e open_.set open_.free c.loop-least.gains open_.left open_.due k inv.branch.valid some size inv.branch.is_node
          (λ n is. inv.gains n is ∙ branch-gain e table.set table.free open_ k n inv.branch table.few some size is) (Some free) (wanted g t (goal.at.loop-least-preserved g t c).After-keep-kept) in
          let gone : IsNarrowed V e.m open_.set free open_.left least (without_member free next) =
          branch-leaves e open_.set free c.keep-kept.new.gains open_.left open_.due k inv.branch.valid some size branch.is_node
          (λ n is. gains n is ∙ branch-gain e table.set table.free record { set = open_.set; free = free; left = open_.left; due = open_.due; voters = open_.voters } k n branch table.few some size is)
          next c.child-child.result here (omega (arith, inv.left, c.if-branch-eq0.false))
          (omega (arith, c.if-from-open.false, c.from-else-not-has.ensures, ap (λ n. get_or c.keep-kept.new.gains n 0) c.from.ensures))
          c.child-child.ensures.set c.child-child.ensures.free c.child-child.ensures.left
          (omega (arith, c.child-child.ensures.due, ap (λ n. get_or c.keep-kept.new.gains n 0) c.from-in-Some.ensures))
          (c.falls_short.ensures c.if-not-falls_short.false) in
          narrowed-more V e.m open_.set c.args.branch.now.free free open_.left least
          (narrowed-more V e.m open_.set c.args.branch.now.free open_.free open_.left least (inv.narrowed k some size) free fewer) (without_member free next) gone;
    }

pub returns : goal.returns
returns g t c short k some size =
    let table = c.args.self.now in
    let e = table.profile.now in
    let open_ = c.loop-least.open in
    let inv = c.loop-least.invariant in
    let V = thiele_value (increments Cc k) e.rows in
    rw (inv.set, inv.left, inv.due) at (
    narrowed-out V e.m open_.set c.args.branch.now.free open_.free open_.left (V open_.set + open_.due) (inv.narrowed k some size)
    (branch-narrows e open_.set open_.free c.loop-least.gains open_.left open_.due k inv.branch.valid some size inv.branch.is_node
    (λ n is. inv.gains n is ∙ branch-gain e table.set table.free open_ k n inv.branch table.few some size is) None (rw c.in_default.is at c.least_wanted.ensures))
    )
