use Rattle.std.proofs.Common.{◌≡◌, ◌+◌, ◌*◌, ◌++◌, ◌∷◌, ◌∙◌, [], sym, ap, subst, arith, inl, inr, length, length-append, get_or}
use Rattle.std.proofs.lemmas.Bool.{cases_lt}
use Rattle.std.proofs.Math.ListN.{get_or-append}
use Rattle.std.proofs.Math.Seq.{get_or-append_seam}
use Rattle.sequential_winners.specs.Steps.Families.{IsBlock, no_block}
use Rattle.sequential_winners.proofs.families.put_blocks.Goals as goal

pub loop-block-init : goal.loop-block-init
loop-block-init g c = record {
  size = ap length c.clear.ensures.items;
  each = λ b within. absurd (omega (arith, within, ap length c.clear.ensures.items));
}

pub loop-block-preserved : goal.loop-block-preserved
loop-block-preserved g c =
    let old = c.loop-block.blocks.items in
    let block = c.block_from.result in
    let pushed = c.in_ok-push.ensures.items in
    let size : length (old ++ block ∷ []) ≡ c.loop-block.block + 1 = omega (arith, length-append old (block ∷ []), c.loop-block.invariant.size) in
    record {
      size = ap length pushed ∙ size;
      each = λ b within. subst (IsBlock c.args.leasts.now c.args.mosts.now (b * 64)) (sym (ap (λ l. get_or l b no_block) pushed)) (elim (cases_lt b (length old)) [
        | inl earlier ↦ subst (IsBlock c.args.leasts.now c.args.mosts.now (b * 64)) (sym (get_or-append old (block ∷ []) no_block b earlier)) (c.loop-block.invariant.each b earlier)
        | inr later ↦
            let here : b ≡ length old = omega (arith, later, within, ap length pushed, size, c.loop-block.invariant.size) in
            let last : get_or (old ++ block ∷ []) b no_block ≡ block = ap (λ k. get_or (old ++ block ∷ []) k no_block) here ∙ get_or-append_seam old block [] no_block in
            subst (IsBlock c.args.leasts.now c.args.mosts.now (b * 64)) (sym last) (subst (λ k. IsBlock c.args.leasts.now c.args.mosts.now (k * 64) block) (sym (here ∙ c.loop-block.invariant.size)) c.block_from.ensures)
      ]);
    }
