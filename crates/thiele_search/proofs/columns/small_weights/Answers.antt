use Rattle.std.proofs.Common.{◌≡◌, ℕ, refl, arith, get_or, replicate}
use Rattle.tie_walk.proofs.WorthLemmas.{no_total}
use Rattle.thiele_search.proofs.columns.small_weights.Goals as goal

pub loop-j-init : goal.loop-j-init
loop-j-init c = record {
  long = refl;
  same = λ i low. absurd (omega (arith, low));
  few = λ i. let e : get_or {A = ℕ} (replicate 40 0) i 0 ≡ 0 = no_total 40 i in omega (arith, e);
  within = omega arith;
  none = λ i high low. absurd (omega (arith, low));
}
