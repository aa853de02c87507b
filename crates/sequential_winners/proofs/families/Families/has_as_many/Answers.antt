use Rattle.std.proofs.Common.{◌≡◌, ◌∷◌, ◌+◌, ◌&&◌, ◌∙◌, ℕ, Bool, false, sym, ap, subst, arith}
use Rattle.std.specs.Prelude.{nat_le}
use Rattle.std.specs.List.{list_all, range_with_len}
use Rattle.std.proofs.lemmas.Bool.{le-leb, lt-leb}
use Rattle.ballot_base.specs.CandSet.{common_members, includes}
use Rattle.ballot_base.specs.Lists.{IsIncreasing}
use Rattle.ballot_base.proofs.Increasing.{IsIncreasing-filter, IsIncreasing-lower}
use Rattle.tie_walk.proofs.LawLemmas.{IsIncreasing-range}
use Rattle.sequential_winners.specs.Clones.{clone_count, without_clones}
use Rattle.sequential_winners.specs.Families.{Sequential}
use Rattle.sequential_winners.proofs.AloneLemmas.{many-fails, many-rest}
use Rattle.sequential_winners.proofs.families.Families.has_as_many.Goals as goal
use Rattle.sequential_winners.proofs.families.Families.has_as_many.Goals.{After-includes, After-count}

-- what the first test says
tested : (g : _) (c : After-includes g)
    → (c.self.inside.alone ≡ without_clones c.args.self.now.election.m c.args.self.now.election.rows)
    × (c.includes.result ≡ includes c.args.set (common_members c.args.other (without_clones c.args.self.now.election.m c.args.self.now.election.rows)))
tested g c =
    let alone-is : c.self.inside.alone ≡ without_clones c.args.self.now.election.m c.args.self.now.election.rows = c.self.invariant.2 ∙ ap (λ (s : Sequential). without_clones s.election.m s.election.rows) c.self.view_is in
    (alone-is, c.includes.ensures ∙ ap (includes c.args.set) (c.common.ensures ∙ ap (common_members c.args.other) alone-is))

pub returns-then-not-includes : goal.returns-then-not-includes
returns-then-not-includes g c =
    let e = c.args.self.now.election in
    sym (many-fails e.m e.rows c.args.set c.args.other c.requires.set c.requires.other (sym (tested g (goal.at.returns-then-not-includes g c).After-includes).1 ∙ c.if-not-includes.true))

pub loop-c-init : goal.loop-c-init
loop-c-init g c =
    let e = c.args.self.now.election in
    let t = tested g (goal.at.loop-c-init g c).After-includes in
    let all-is : c.all.result ≡ range_with_len 1 e.m = c.all.ensures ∙ ap (range_with_len 1) c.m.ensures.value in
    rw (c.into_iter-c-iterator.ensures.into_iter_gives, c.members-c-items.ensures.items, c.minus.ensures, all-is, t.0) record {
      rises = IsIncreasing-filter _ 1 e.m (range_with_len 1 e.m) (IsIncreasing-range 1 e.m e.m (omega arith));
      rest = many-rest e.m e.rows c.args.set c.args.other c.requires.set c.requires.other (sym t.1 ∙ c.if-not-includes.false);
    }

-- the next candidate, and those after it
pub count-requires-clause-low : goal.count-requires-clause-low
count-requires-clause-low g c = (subst (IsIncreasing 1 c.args.self.now.election.m) c.in-Some.ensures.steps c.loop-c.invariant.rises).0

pub count-requires-clause-high : goal.count-requires-clause-high
count-requires-clause-high g c = (subst (IsIncreasing 1 c.args.self.now.election.m) c.in-Some.ensures.steps c.loop-c.invariant.rises).1

pub returns-then-count : goal.returns-then-count
returns-then-count g c =
    let e = c.args.self.now.election in
    let test : ℕ → Bool = λ x. nat_le (clone_count e.rows c.args.other x) (clone_count e.rows c.args.set x) in
    let fails : test c.in-Some.c ≡ false = lt-leb (clone_count e.rows c.args.other c.in-Some.c) (clone_count e.rows c.args.set c.in-Some.c) (omega (arith, c.count.ensures, c.count-in-loop-c.ensures, c.if-count.true)) in
    sym (c.loop-c.invariant.rest ∙ ap (list_all test) c.in-Some.ensures.steps ∙ ap (λ b. b && list_all test c.next.new.self) fails)

pub loop-c-preserved : goal.loop-c-preserved
loop-c-preserved g c =
    let e = c.args.self.now.election in
    let test : ℕ → Bool = λ x. nat_le (clone_count e.rows c.args.other x) (clone_count e.rows c.args.set x) in
    let passes = le-leb (clone_count e.rows c.args.other c.in-Some.c) (clone_count e.rows c.args.set c.in-Some.c) (omega (arith, c.count.ensures, c.count-in-loop-c.ensures, c.if-count.false)) in
    let old : IsIncreasing 1 e.m (c.in-Some.c ∷ c.next.new.self) = subst (IsIncreasing 1 e.m) c.in-Some.ensures.steps c.loop-c.invariant.rises in
    record {
      rises = IsIncreasing-lower 1 (c.in-Some.c + 1) e.m c.next.new.self (omega arith) old.2;
      rest = c.loop-c.invariant.rest ∙ ap (list_all test) c.in-Some.ensures.steps ∙ ap (λ b. b && list_all test c.next.new.self) passes;
    }

pub returns : goal.returns
returns g c =
    let e = c.args.self.now.election in
    let test : ℕ → Bool = λ x. nat_le (clone_count e.rows c.args.other x) (clone_count e.rows c.args.set x) in
    sym (c.loop-c.invariant.rest ∙ ap (list_all test) c.in-None.ensures.steps.0)
