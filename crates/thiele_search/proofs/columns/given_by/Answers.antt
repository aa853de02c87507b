use Rattle.std.proofs.Common.{◌≡◌, ℕ, ◌*◌, ◌^◌, ◌∙◌, sym, ap, arith, get_or}
use Rattle.thiele_search.specs.Steps.Columns.{shared}
use Rattle.thiele_search.proofs.ColumnLemmas.{shares-few, ones-common, total-last, total-zero}
use Rattle.thiele_search.proofs.columns.given_by.Goals as goal

pub loop-h-init : goal.loop-h-init
loop-h-init c = record { summed = sym (total-zero (λ h. get_or c.args.weights.now h 0 * shared c.args.column (get_or c.args.words.now h 0))); most = omega arith }

pub loop-h-preserved : goal.loop-h-preserved
loop-h-preserved c =
    let f : ℕ → ℕ = λ h. get_or c.args.weights.now h 0 * shared c.args.column (get_or c.args.words.now h 0) in
    let word = get_or c.args.words.now c.loop-h.h 0 in
    let same : c.from.result ≡ shared c.args.column word = c.from.ensures ∙ ones-common c.args.column word c.ranges.column.fits in
    let more : get_or c.args.weights.now c.loop-h.h 0 * c.from.result ≡ f c.loop-h.h =
    ap (λ n. get_or c.args.weights.now c.loop-h.h 0 * n) same in
    let one = shares-few (get_or c.args.weights.now c.loop-h.h 0) c.args.column word (2 ^ 44) (omega (arith, c.requires.small c.loop-h.h)) (c.fits-words c.loop-h.h) in
    record {
      summed = omega (arith, total-last f c.loop-h.h, c.loop-h.invariant.summed, more);
      most = omega (arith, c.loop-h.invariant.most, more, ap (λ n. get_or c.args.weights.now c.loop-h.h 0 * n) (ones-common c.args.column word c.ranges.column.fits), one);
    }
