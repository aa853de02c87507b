-- A call of `is_due`: what the caller hands it, and what comes back.
--     Left                   what the counter is to the logic
--     Due, due_at            the contract of `is_due`, and what it is called with: a `&` to the counter, for some lifetime
--     goes_in, comes_out     the counter's `&` and the token of its lifetime go in; the token and a truth value come out
use Rattle.std.proofs.Common.{◌≡◌, ℕ, Bool, List, [], ◌∷◌, refl, ap}
use seplogic.Ra.Ura.{Ura}
use mir.Val.{Val, vbool, vptr}
use base.Logic.{SProp, ent, sep, ex, guard, id⊢}
use base.Fml.{Lft, Share, ftrue, fsep, flft}
use prog.Memory.{Memory}
use prog.Routine.{Routine}
use contract.Monad.{Fun}
use types.Logic.{Logic, sem}
use types.Kit.{‵, raw, ◌⊛◌, some, later, ◌$◌, ◌∵◌, !, qed, done, move, keep, use1, split, join, fjoin, feq_i, feq_l, pick, show, check, await, updating, now as at_once}
use denote.RattleType.{RattleType}
use denote.Memory.{hidden_shr}
use denote.Builtin.{u64, bool}
use denote.Steps.{nothing, only}
use denote.Triple.Statement.{Contract}
use denote.Triple.Spec.{triple_of}
use Rattle.std.specs.contracts.cell.Cell as cell
use Rattle.refusing_heap.specs.contracts.refusing.is_due as due

abbrev pub Left : RattleType
Left = cell.the_row u64

module _ {M : Type 1} {𝓤 : Ura M} (𝓛 : Logic 𝓤) (at_mem : Memory → SProp 𝓤) (run : Routine → Fun 𝓤) where
  open 𝓛 use {H, A}

  abbrev pub Due : Contract 𝓤
  Due = triple_of 𝓛 due.signature (due.spec 𝓛 at_mem run)

  module _ (κ : Lft) (q : Share) (p : ℕ × ℕ) (x : Left.Denot) where
    abbrev pub due_at : Due.Ghost
    due_at = (((κ, tt), (q, tt), tt, (record { ref_ptr = p; now = x }, tt), (vptr p.0 p.1 ∷ [], tt)), tt)

    pub goes_in : ent 𝓤 (sep 𝓤 (sem 𝓛 (hidden_shr Left κ x p.0 p.1)) (A.lft κ q)) (Due.pre due_at)
    goes_in = qed 𝓛 (‵ (hidden_shr Left κ x p.0 p.1) ∷ ‵ (flft κ q) ∷ []) ∵
        feq_i ! (List Val) (vptr p.0 p.1 ∷ []) _ refl $ fjoin ! $ nothing ! $ move ! (1 ∷ []) $ fjoin ! $
        -- [what the parameters own; the token]
        nothing ! $ move ! (2 ∷ []) $ join ! $ join ! $ nothing ! $ move ! (1 ∷ []) $ join ! $ done !

    pub comes_out : (v : Val) → ent 𝓤 (Due.post due_at v) (H.⇛ (ex 𝓤 (λ (y : Bool). guard 𝓤 (v ≡ vbool y) (A.lft κ q))))
    comes_out v = qed 𝓛 (raw (Due.post due_at v) ∷ []) ∵ updating ! $
        use1 𝓛 (later (some (λ (y : Bool). ((‵ (flft κ q) ⊛ ‵ ftrue) ⊛ ‵ (bool.own_val y (v ∷ []))) ⊛ some (λ (ws : Unit {0} × Unit {0}). ‵ (fsep ftrue ftrue) ⊛ ‵ ftrue)))) (id⊢ 𝓤 _) $
        await ! tt $ pick ! (λ y. split ! $ split ! $ move ! (1 ∷ []) $ feq_l ! (λ e. split ! $ at_once ! $
        show ! (λ (y : Bool). guard 𝓤 (v ≡ vbool y) (A.lft κ q)) y $ check ! (ap only e) $ keep ! (0 ∷ []) $ done !))
