use Rattle.std.proofs.Common.{◌-◌, ◌*◌, ◌∙◌, ℕ, Bool, List, [], refl, sym, arith, inl, inr, length}
use Rattle.std.proofs.lemmas.Bool.{cases_lt}
use Rattle.sequential_winners.specs.Families.{Sequential}
use Rattle.sequential_winners.specs.Steps.Families.{may_be_in}
use Rattle.sequential_winners.proofs.BlockLemmas.{none-passes}
use Rattle.sequential_winners.proofs.ValueLemmas.{completes-is}
use Rattle.sequential_winners.proofs.families.Families.is_in_some.Goals as goal

pub returns-then-is_in_block : goal.returns-then-is_in_block
returns-then-is_in_block g c =
    sym (c.is_in_block.ensures.0 c.if-is_in_block.true)
    ∙ completes-is c.args.self.now c.requires.fits c.args.stored.now.leasts.items c.args.stored.now.mosts.items c.requires.families c.args.c c.args.set c.args.stored.now.leasts.items c.args.stored.now.mosts.items refl refl c.requires.within c.requires.set c.requires.size

pub loop-block-preserved : goal.loop-block-preserved
loop-block-preserved g c j before inside = elim (cases_lt j (c.loop-block.block * 64)) [
  | inl earlier ↦ c.loop-block.invariant j earlier inside
  | inr later ↦ c.is_in_block.ensures.1 c.if-is_in_block.false j later (omega (arith, before)) inside
]

pub returns : goal.returns
returns g c =
    let s : Sequential = c.args.self.now in
    let leasts = c.args.stored.now.leasts.items in
    let mosts = c.args.stored.now.mosts.items in
    let p : List ℕ × List ℕ → Bool = may_be_in s.election.m s.election.rows c.args.c c.args.set (s.k - length c.args.set) in
    sym (none-passes p leasts mosts [] [] c.requires.families.paired (λ j inside. c.loop-block.invariant j (omega (arith, inside, c.requires.blocks.enough, c.loop-block-test.false, c.len-block-end.ensures)) inside))
    ∙ completes-is c.args.self.now c.requires.fits leasts mosts c.requires.families c.args.c c.args.set leasts mosts refl refl c.requires.within c.requires.set c.requires.size
