use Rattle.std.proofs.Common.{◌≡◌, ◌+◌, ◌-◌, ◌==◌, ◌∷◌, ◌++◌, ◌∙◌, ℕ, suc, Bool, [], sym, ap, arith, length, filter, get_or, append-nil}
use Rattle.std.specs.List.{range_with_len}
use Rattle.std.proofs.lemmas.Bool.{eq-eqb, ne_eqb}
use Rattle.std.proofs.lemmas.List.Elements.{filter-append}
use Rattle.ballot_base.specs.CandSet.{with_member}
use Rattle.ballot_base.proofs.Increasing.{IsIncreasing-filter, with_member-above}
use Rattle.tie_walk.proofs.LawLemmas.{IsIncreasing-range}
use Rattle.tie_walk.proofs.StepLemmas.{range-more}
use Rattle.sequential_winners.proofs.AloneLemmas.{keeps, drops, table-alone}
use Rattle.sequential_winners.proofs.levels.Levels.alone.Goals as goal
use Rattle.sequential_winners.proofs.levels.Levels.alone.Goals.{After-len, then-len-eq1, else-len-eq1}

pub loop-c-init : goal.loop-c-init
loop-c-init g c = c.empty-alone.ensures

-- those up to c, from those before it
more : (g : _) (c : After-len g)
    → filter (λ x. length (get_or c.args.self.now.clones x []) == 1) (range_with_len 1 (c.loop-c.c + 1 - 1))
    ≡ filter (λ x. length (get_or c.args.self.now.clones x []) == 1) (range_with_len 1 (c.loop-c.c - 1)) ++ filter (λ x. length (get_or c.args.self.now.clones x []) == 1) (c.loop-c.c ∷ [])
more g c =
    let p : ℕ → Bool = λ x. length (get_or c.args.self.now.clones x []) == 1 in
    let k = c.loop-c.c in
    let next : k + 1 - 1 ≡ suc (k - 1) = omega (arith, c.loop-c.auto.c) in
    ap (λ n. filter p (range_with_len 1 n)) next ∙ ap (filter p) (range-more 1 (k - 1) k (omega (arith, c.loop-c.auto.c))) ∙ filter-append p (range_with_len 1 (k - 1)) (k ∷ [])

pub loop-c-preserved : goal.loop-c-preserved
loop-c-preserved g c =
    let p : ℕ → Bool = λ x. length (get_or c.args.self.now.clones x []) == 1 in
    let k = c.loop-c.c in
    let old = filter p (range_with_len 1 (k - 1)) in
    let m = more g (goal.at.loop-c-preserved g c).After-len in
    let size : c.len.result ≡ length (get_or c.args.self.now.clones k []) = c.len.ensures.count ∙ ap length c.class.ensures in
    elim c.if-len-eq1.branch [
      | then-len-eq1 w ↦
          let grown : with_member old k ≡ old ++ k ∷ [] =
          with_member-above 1 (k - 1) old k (IsIncreasing-filter p 1 (k - 1) (range_with_len 1 (k - 1)) (IsIncreasing-range 1 (k - 1) (k - 1) (omega arith))) (omega (arith, c.loop-c.auto.c)) in
          w.alone-is ∙ w.with-alone.ensures ∙ ap (λ l. with_member l k) c.loop-c.invariant ∙ grown
          ∙ ap (λ l. old ++ l) (sym (keeps p k [] (eq-eqb (length (get_or c.args.self.now.clones k [])) 1 (sym size ∙ w.if-len-eq1.true)))) ∙ sym m
      | else-len-eq1 w ↦
          w.alone-is ∙ c.loop-c.invariant ∙ sym (append-nil old)
          ∙ ap (λ l. old ++ l) (sym (drops p k [] (ne_eqb (length (get_or c.args.self.now.clones k [])) 1 (λ is. w.if-len-eq1.false (size ∙ is))))) ∙ sym m
    ]

pub returns : goal.returns
returns g c =
    let s = c.args.self.now in
    let e = s.choices.profile.now in
    let last : c.loop-c.c - 1 ≡ e.m = omega (arith, c.m-c-end.ensures.value) in
    c.loop-c.invariant ∙ ap (λ n. filter (λ x. length (get_or s.clones x []) == 1) (range_with_len 1 n)) last ∙ table-alone e.m e.rows s.clones s.classes
