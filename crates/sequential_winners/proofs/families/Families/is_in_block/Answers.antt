use Rattle.std.proofs.Common.{◌≡◌, ◌-◌, ◌*◌, ◌<◌, ◌∙◌, ℕ, Bool, List, true, false, [], sym, ap, subst, arith, inl, inr, length, get_or}
use Rattle.std.proofs.lemmas.Bool.{cases_lt}
use Rattle.std.proofs.lemmas.List.{get_or_default}
use Rattle.ballot_base.specs.CandSet.{common_members, includes, members_upto}
use Rattle.sequential_winners.specs.Clones.{without_clones}
use Rattle.sequential_winners.specs.Families.{Sequential}
use Rattle.sequential_winners.specs.Steps.Families.{may_be_in, IsBlock, no_block}
use Rattle.sequential_winners.specs.declared.families.Block.{Block}
use Rattle.sequential_winners.proofs.BlockLemmas.{least-skips, most-skips}
use Rattle.sequential_winners.proofs.PairLemmas.{pairs-pass}
use Rattle.sequential_winners.proofs.families.Families.is_in_block.Goals as goal
use Rattle.sequential_winners.proofs.families.Families.is_in_block.Goals.{After-may_be_in, then-not-includes-via-then-not-includes, then-not-includes-via-else-not-includes+then-not-includes-2}

pub returns-then-not-includes : goal.returns-then-not-includes
returns-then-not-includes g c =
    let s : Sequential = c.args.self.now in
    let e = s.election in
    let leasts = c.args.stored.now.leasts.items in
    let mosts = c.args.stored.now.mosts.items in
    let set = c.args.set in
    let block : Block = c.index.result.now in
    let alone-is : c.self.inside.alone ≡ without_clones e.m e.rows = c.self.invariant.2 ∙ ap (λ (t : Sequential). without_clones t.election.m t.election.rows) c.self.view_is in
    let is-block : IsBlock leasts mosts (c.args.block * 64) block =
    subst (IsBlock leasts mosts (c.args.block * 64)) (get_or_default c.args.stored.now.blocks.items c.args.block no_block block c.requires.inside ∙ sym c.index.ensures) (c.requires.blocks.each c.args.block c.requires.inside) in
    elim c.then-not-includes.branch [
      | then-not-includes-via-then-not-includes w ↦ (
        λ is. absurd (let wrong : false ≡ true = is in cc),
        λ _ i from before inside. most-skips s leasts mosts c.requires.families c.args.c set c.requires.within c.requires.set (c.args.block * 64) block is-block i from before inside
            (sym (c.includes.ensures ∙ ap (includes block.in_some) (c.common.ensures ∙ ap (common_members set) alone-is)) ∙ w.if-not-includes.true),
      )
      | then-not-includes-via-else-not-includes+then-not-includes-2 w ↦ (
        λ is. absurd (let wrong : false ≡ true = is in cc),
        λ _ i from before inside. least-skips s leasts mosts c.requires.families c.args.c set c.requires.within c.requires.set (c.args.block * 64) block is-block i from before inside
            (sym (w.includes-else-not-includes.ensures ∙ ap (includes set) (w.upto.ensures ∙ ap (λ l. members_upto l c.args.c) (w.common-else-not-includes.ensures ∙ ap (common_members block.in_all) alone-is))) ∙ w.if-not-includes-2.true),
      )
    ]

-- what is asked of the family at i
at-place : (g : _) (c : After-may_be_in g)
    → may_be_in c.args.self.now.election.m c.args.self.now.election.rows c.args.c c.args.set (c.args.self.now.k - length c.args.set) (get_or c.args.stored.now.leasts.items c.loop-i.i [], get_or c.args.stored.now.mosts.items c.loop-i.i [])
    ≡ c.may_be_in.result
at-place g c =
    let s : Sequential = c.args.self.now in
    let leasts = c.args.stored.now.leasts.items in
    let mosts = c.args.stored.now.mosts.items in
    let i = c.loop-i.i in
    let p : List ℕ × List ℕ → Bool = may_be_in s.election.m s.election.rows c.args.c c.args.set (s.k - length c.args.set) in
    let inside : i < length leasts = omega (arith, c.loop-i-test.true, c.min-i-end.ensures, c.len.ensures) in
    ap (λ l. p (l, get_or mosts i [])) (get_or_default leasts i [] c.index-in-loop-i.result.now inside ∙ sym c.index-in-loop-i.ensures)
    ∙ ap (λ l. p (c.index-in-loop-i.result.now, l)) (get_or_default mosts i [] c.index-in-loop-i-2.result.now (omega (arith, inside, c.requires.families.paired)) ∙ sym c.index-in-loop-i-2.ensures)
    ∙ sym c.may_be_in.ensures

pub returns-then-may_be_in : goal.returns-then-may_be_in
returns-then-may_be_in g c =
    let s : Sequential = c.args.self.now in
    let leasts = c.args.stored.now.leasts.items in
    let mosts = c.args.stored.now.mosts.items in
    let i = c.loop-i.i in
    let p : List ℕ × List ℕ → Bool = may_be_in s.election.m s.election.rows c.args.c c.args.set (s.k - length c.args.set) in
    let inside : i < length leasts = omega (arith, c.loop-i-test.true, c.min-i-end.ensures, c.len.ensures) in
    let inside' : i < length mosts = omega (arith, inside, c.requires.families.paired) in (
      λ _. pairs-pass p leasts mosts i (get_or leasts i []) (get_or mosts i []) inside inside' (λ d. get_or_default leasts i [] d inside) (λ d. get_or_default mosts i [] d inside')
          (at-place g (goal.at.returns-then-may_be_in g c).After-may_be_in ∙ c.if-may_be_in.true),
      λ is. absurd (let wrong : true ≡ false = is in cc),
    )

pub loop-i-preserved : goal.loop-i-preserved
loop-i-preserved g c j from before = elim (cases_lt j c.loop-i.i) [
  | inl earlier ↦ c.loop-i.invariant j from earlier
  | inr later ↦
      let s : Sequential = c.args.self.now in
      let here : j ≡ c.loop-i.i = omega (arith, before, later) in
      ap (λ k. may_be_in s.election.m s.election.rows c.args.c c.args.set (s.k - length c.args.set) (get_or c.args.stored.now.leasts.items k [], get_or c.args.stored.now.mosts.items k [])) here
      ∙ at-place g (goal.at.loop-i-preserved g c).After-may_be_in ∙ c.if-may_be_in.false
]
