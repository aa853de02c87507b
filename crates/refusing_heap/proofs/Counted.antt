-- A call of `count`: what the caller hands it, and what comes back.
--     Counter                what the counter is to the logic
--     Count, count_at        the contract of `count`, and what it is called with: a `&` to the counter, for some lifetime, and two numbers
--     goes_in, comes_out     the counter's `&` and the token of its lifetime go in; the token comes out
use Rattle.std.proofs.Common.{◌≡◌, ℕ, ◌<◌, ◌^◌, List, [], ◌∷◌, refl, ap, w64}
use seplogic.Ra.Ura.{Ura}
use mir.Val.{Val, vunit, vint, vptr}
use base.Logic.{SProp, ent, sep, guard, id⊢}
use base.Fml.{Lft, Share, ftrue, fsep, flft}
use prog.Memory.{Memory}
use prog.Routine.{Routine}
use contract.Monad.{Fun}
use types.Logic.{Logic, sem}
use types.Kit.{‵, raw, ◌⊛◌, some, later, ◌$◌, ◌∵◌, !, qed, done, move, keep, use1, split, join, fjoin, feq_i, feq_l, flt_i, pick, check, await, updating, now as at_once}
use denote.RattleType.{RattleType}
use denote.Memory.{hidden_shr}
use denote.Builtin.{unit}
use denote.Steps.{nothing, only}
use denote.Triple.Statement.{Contract}
use denote.Triple.Spec.{triple_of}
use Rattle.std.specs.contracts.cell.Cell as cell
use Rattle.refusing_heap.specs.contracts.measured.Usage as usage
use Rattle.refusing_heap.specs.contracts.measured.count as count

abbrev pub Counter : RattleType
Counter = cell.the_row usage.the_row

module _ {M : Type 1} {𝓤 : Ura M} (𝓛 : Logic 𝓤) (at_mem : Memory → SProp 𝓤) (run : Routine → Fun 𝓤) where
  open 𝓛 use {H, A}

  abbrev pub Count : Contract 𝓤
  Count = triple_of 𝓛 count.signature (count.spec 𝓛 at_mem run)

  module _ (κ : Lft) (q : Share) (p : ℕ × ℕ) (x : Counter.Denot) (asked given : ℕ) where
    abbrev pub count_at : Count.Ghost
    count_at = (((κ, tt), (q, tt), tt, (record { ref_ptr = p; now = x }, (asked, (given, tt))), (vptr p.0 p.1 ∷ [], (vint w64 asked ∷ [], (vint w64 given ∷ [], tt)))), tt)

    pub goes_in : asked < 2 ^ 64 → given < 2 ^ 64 → ent 𝓤 (sep 𝓤 (sem 𝓛 (hidden_shr Counter κ x p.0 p.1)) (A.lft κ q)) (Count.pre count_at)
    goes_in asked_fits given_fits = qed 𝓛 (‵ (hidden_shr Counter κ x p.0 p.1) ∷ ‵ (flft κ q) ∷ []) ∵
        nothing ! $ flt_i ! given (2 ^ 64) given_fits $ feq_i ! (List Val) (vint w64 given ∷ []) (vint w64 given ∷ []) refl $ fjoin ! $ fjoin ! $
        flt_i ! asked (2 ^ 64) asked_fits $ feq_i ! (List Val) (vint w64 asked ∷ []) (vint w64 asked ∷ []) refl $ fjoin ! $ fjoin ! $
        -- [the numbers; the counter; the token]
        move ! (1 ∷ []) $ feq_i ! (List Val) (vptr p.0 p.1 ∷ []) (vptr p.0 p.1 ∷ []) refl $ fjoin ! $ fjoin ! $
        -- [what the parameters own; the token]
        nothing ! $ move ! (2 ∷ []) $ join ! $ join ! $ nothing ! $ move ! (1 ∷ []) $ join ! $ done !

    pub comes_out : (v : Val) → ent 𝓤 (Count.post count_at v) (H.⇛ (guard 𝓤 (v ≡ vunit) (A.lft κ q)))
    comes_out v = qed 𝓛 (raw (Count.post count_at v) ∷ []) ∵ updating ! $
        use1 𝓛 (later (some (λ (y : Unit {0}). ((‵ (flft κ q) ⊛ ‵ ftrue) ⊛ ‵ (unit.own_val y (v ∷ [])))
        ⊛ some (λ (ws : Unit {0} × (Unit {0} × (Unit {0} × Unit {0}))). ‵ (fsep ftrue (fsep ftrue (fsep ftrue ftrue))) ⊛ ‵ ftrue)))) (id⊢ 𝓤 _) $
        await ! tt $ pick ! (λ y. split ! $ split ! $ move ! (1 ∷ []) $ feq_l ! (λ e. split ! $ at_once ! $ check ! (ap only e) $ keep ! (0 ∷ []) $ done !))
