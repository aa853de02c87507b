use Rattle.std.proofs.Common.{◌≡◌, ℕ, ◌+◌, ◌*◌, ◌^◌, ◌<◌, ◌≤◌, ◌==◌, ◌∙◌, Bool, true, false, cond, ◌∷◌, refl, sym, ap, arith, inl, inr, get_or}
use Rattle.std.specs.Int.{bit_at}
use Rattle.std.proofs.lemmas.Bool.{cases_lt, eq-eqb}
use Rattle.std.proofs.lemmas.Nat.Bits.{bit_at-zero}
use Rattle.ballot_base.specs.Limits.{most_candidates, most_members}
use Rattle.ballot_base.specs.CandSet.{has_member}
use Rattle.ballot_base.specs.Ballots.{hits}
use Rattle.tie_walk.proofs.TightLemmas.{hits-most}
use Rattle.thiele_search.specs.Steps.Columns.{block_voters, total, shared, given, column_limit}
use Rattle.thiele_search.proofs.ColumnLemmas.{given_below, given-sum, given-whole, one-added, one-most}
use Rattle.row_multipliers.proofs.SearchLemmas.{rest-increasing}
use Rattle.thiele_search.proofs.columns.Columns.add_block.Goals as goal

pub loop-candidate-preserved : goal.loop-candidate-preserved
loop-candidate-preserved g c =
    let left = c.loop-candidate.candidate-iterator in
    let rest = c.next.new.self in
    let at = c.from-in-loop-candidate.result in
    let is : left ≡ at ∷ rest = c.in-Some.ensures.steps ∙ ap (λ n. n ∷ rest) (sym c.from-in-loop-candidate.ensures) in
    let up = c.loop-candidate.invariant.rises in
    let given = c.given_by-given in
    let is_set : (n : ℕ) → get_or c.set.new.self n 0 ≡ cond (n == at) (get_or c.loop-candidate.gains at 0 + given.result) (get_or c.loop-candidate.gains n 0) =
    λ n. c.set.ensures n
    ∙ ap (λ x. cond (n == c.in-Some.candidate) (c.of.result + x) (get_or c.loop-candidate.gains n 0)) c.from-in-loop-candidate-2.ensures
    ∙ ap (λ x. cond (n == c.in-Some.candidate) (x + given.result) (get_or c.loop-candidate.gains n 0)) c.of.ensures.value
    ∙ ap (λ m. cond (n == m) (get_or c.loop-candidate.gains m 0 + given.result) (get_or c.loop-candidate.gains n 0)) (sym c.from-in-loop-candidate.ensures) in
    record {
      rises = (rest-increasing most_candidates left rest at is up).1;
      made = λ n. one-added c.loop-candidate.gains c.set.new.self left rest at given.result is up is_set n _
          (λ j. total (λ h. get_or c.args.self.now.weights h 0 * shared (get_or c.args.block.now j 0) (get_or c.by_hits-words.result h 0)) c.levels_in_use-levels.result)
          given.ensures.sum (c.loop-candidate.invariant.made n);
      most = λ n. one-most c.loop-candidate.gains c.set.new.self left rest at given.result is up is_set n (get_or c.args.gains.now n 0) (most_members * 2 ^ 50)
          (omega (arith, given.ensures.most, c.levels_in_use-levels.ensures.few, c.min-levels.ensures, c.args.self.now.sound.few)) (c.loop-candidate.invariant.most n);
    }

-- no voter has a number of hits whose word is empty
no-voter : (word i x : ℕ) → word ≡ 0 → bit_at word i ≡ cond (x == x) 1 0 → ⊥
no-voter word i x empty counted =
    let here : cond {A = ℕ} (x == x) 1 0 ≡ 1 = ap (λ b. cond {A = ℕ} b 1 0) (eq-eqb x x refl) in
    let none : bit_at word i ≡ 0 = ap (λ w. bit_at w i) empty ∙ bit_at-zero i in
    omega (arith, counted, here, none)

pub returns-clause-sum : goal.returns-clause-sum
returns-clause-sum g c ballot_at block n in_ =
    let weights = c.args.self.now.weights in
    let column = get_or c.args.block.now n 0 in
    let all = c.min-levels.result in
    let levels = c.levels_in_use-levels.result in
    let part : ℕ = total (λ h. get_or weights h 0 * shared column (get_or c.by_hits-words.result h 0)) levels in
    let made : get_or c.loop-candidate.gains n 0 + cond (has_member c.loop-candidate.candidate-iterator n) part 0 ≡ get_or c.args.gains.now n 0 + cond (has_member c.args.free n) part 0 = c.loop-candidate.invariant.made n in
    let counted = c.by_hits-words.ensures ballot_at block in
    let summed : part ≡ total (λ i. given_below weights c.args.set n levels (ballot_at i)) block_voters =
    given-sum ballot_at c.args.block.now block weights c.args.set n c.by_hits-words.result all levels counted c.levels_in_use-levels.ensures.few in
    let whole : total (λ i. given_below weights c.args.set n levels (ballot_at i)) block_voters ≡ total (λ i. given weights c.args.set n (ballot_at i)) block_voters =
    given-whole ballot_at c.args.block.now block weights c.args.set n levels (λ i within high.
    let x = hits (ballot_at i) c.args.set in
    elim (cases_lt x all) [
      | inl below ↦ absurd (no-voter (get_or c.by_hits-words.result x 0) i x (c.levels_in_use-levels.ensures.others x high below) (counted x i below within))
      | inr above ↦
          c.args.self.now.sound.end x
          (omega (arith, above, c.min-levels.ensures, c.len.ensures.count, hits-most 1 most_candidates 1 most_candidates (ballot_at i) c.args.set (block.rises i) c.len.ensures.valid))
    ]) in
    omega (arith, made, summed, whole, ap (λ l. cond (has_member l n) part 0) c.in-None.ensures.steps.0, ap (λ b. cond b part 0) in_)

-- a gain stays small
gain-fits : (done : Bool) (before gain part : ℕ) → before < column_limit → gain ≤ before + cond done 0 (most_members * 2 ^ 50) → part ≤ most_members * 2 ^ 50 → gain + part < 2 ^ 122
gain-fits true before gain part low near more = omega arith
gain-fits false before gain part low near more = omega arith

pub set-requires-clause-small : goal.set-requires-clause-small
set-requires-clause-small g c =
    let at = c.in-Some.candidate in
    let fits = gain-fits (has_member c.loop-candidate.candidate-iterator at) (get_or c.args.gains.now at 0) (get_or c.loop-candidate.gains at 0) c.given_by-given.result
    (c.requires at) (c.loop-candidate.invariant.most at) (omega (arith, c.given_by-given.ensures.most, c.levels_in_use-levels.ensures.few, c.min-levels.ensures, c.args.self.now.sound.few)) in
    omega (arith, fits, c.of.ensures.value, c.from-in-loop-candidate-2.ensures)
