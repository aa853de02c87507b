-- `allocate` of `Measured` meets the contract of an allocator, over any allocator H.
-- The walk is two calls. The handle is shared, so both of its fields are had through a `&`, the counter for `count` and H for the call that is passed on.
-- The answer is H's: a block comes with the right to free it, and that right is the handle's own by the definition of `dealloc_token`.
use Rattle.std.proofs.Common.{◌≡◌, ℕ, ◌+◌, true, false, [], ◌∷◌, Ok, Err, refl, w64, lit<}
use Rattle.std.proofs.raw_atomic.Walks.{proved}
use Rattle.std.proofs.alloc.Calls.{Al, α, seen, token, got, Answer, answer_val, Answer-typed, Answer-Ok, Answer-err, Takes, at_takes, Answered, Takes-goes, Takes-gives, answers}
use mir.Syntax.{Args, Fn, a_type, dnil, dcons}
use mir.Val.{vunit}
use mir.MapTy.{inst_fn}
use base.Logic.{id⊢}
use base.Fml.{ftrue, flft}
use prog.Memory.{size, align, capped, up}
use contract.BorrowLft.{◌⊑◌, ⊑_trans}
use contract.Monad.{fact}
use contract.Running.{tables}
use types.Kit.{‵, raw, ◌⊛◌, later, given, prop, Sq, learn, ◌$◌, ◌∵◌, !, qed, done, move, keep, use0, use1, use2, split, join, fsplit, fjoin, await, suffices}
use types.Run.{enter, lit, addr, stop, fld, no_more, and_then, returns}
use types.ByLocal.{alloc_all, pass_all, free_all, look_at, get, through, sets, lands_as}
use denote.Exit.{yes}
use denote.Builtin.{usize, RefOf}
use denote.Memory.{hidden_shr}
use denote.Opens.{unhide}
use denote.Param.{bounded, param}
use denote.Plain.{uint_vals, uint_Tells}
use denote.RattleType.{owns}
use denote.RawPtr.{block_ptr}
use denote.Ref.{shr_vals}
use denote.Signature.{Slot, plain, types_at}
use denote.Steps.{heard, nothing}
use denote.Triple.Call.{calls_at}
use denote.Triple.Clauses.{Ended}
use denote.Triple.Table.{framed}
use denote.Triple.Walked.{Stays, walk_of, stay_dropped, Goes-dropped, ends_at}
use Rattle.refusing_heap.proofs.Counted.{Counter, Count, count_at, goes_in, comes_out}
use Rattle.refusing_heap.proofs.measured.count.Met.{met as count_met}
use Rattle.refusing_heap.specs.contracts.measured.Measured as measured
use Rattle.refusing_heap.specs.contracts.measured.MeasuredAllocator.allocate as f
use Rattle.refusing_heap.proofs.measured.MeasuredAllocator.allocate.Statement.{statement}
use Rattle.refusing_heap.proofs.measured.MeasuredAllocator.allocate.Code as code

module _ (Z : Al) where
  abbrev args : Args
  args = bounded (a_type ∷ []) (Z.row, tt) (dcons Z.d (dcons Z.drops dnil))

  abbrev here : Fn
  here = inst_fn args code.function

  abbrev ended : Ended
  ended = f.ended Z.row Z.g Z.d Z.drops

  abbrev handle : Slot 2
  handle = RefOf (0 ∷ []) tt (plain (λ _. measured.the_row (param 0 Z.row))) (λ _. tt)

  abbrev word : Slot 2
  word = plain (λ _. usize)

  abbrev stayed : Stays ended.signature.params ended.kept
  stayed = (stay_dropped handle yes, (stay_dropped word yes, (stay_dropped word yes, tt)))

pub allocate_spec : {M : Type 1} → statement M
allocate_spec 𝓤 𝓛 𝓜 𝓡 wired row laws g d drops met _ =
    let Z : Al = record { row = row; laws = laws; g = g; d = d; drops = drops } in
    let c = f.clauses row g d drops 𝓛 𝓜.mem 𝓡.returns in let W = walk_of 𝓛 (ended Z) (stayed Z) c in let 𝓣 = tables 𝓤 𝓛.H 𝓜 𝓡 𝓡.env in
    let goes = Goes-dropped 𝓛 2 (word Z) yes (λ κs x w. refl) in
    proved 𝓛 (ended Z) (stayed Z) c 𝓜 𝓡 (Goes-dropped 𝓛 2 (handle Z) yes (λ κs x w. refl), (goes, (goes, tt)))
    (f.Key.name (args Z)) (here Z) (code.unfolded 𝓤 𝓛.H 𝓜 𝓡 wired (row, tt) d drops)
    (λ κs. (shr_vals, (uint_vals w64, (uint_vals w64, tt)))) (λ κs. ((λ r vs s. s.0), (uint_Tells w64, (uint_Tells w64, tt)))) (λ κs qs bounds a τ are.
    let κ = κs.0 in let q = qs.0 in let r = a.0 in let n = a.1.0 in let al = a.1.1.0 in let fits = are.1.0.1 in let al_fits = are.1.1.0.1 in
    let y : W.Ghost = ((κs, qs, bounds, a, (shr_vals r, (uint_vals w64 n, (uint_vals w64 al, tt)))), τ) in
    let usage = r.now.usage in let heap = r.now.heap in
    let at_usage : ℕ × ℕ = (r.ref_ptr.0, r.ref_ptr.1 + 0) in let at_heap : ℕ × ℕ = (r.ref_ptr.0, r.ref_ptr.1 + up (align (α Z)) 16) in
    let counts = Count 𝓛 𝓜.mem 𝓡.returns in let z = count_at 𝓛 𝓜.mem 𝓡.returns κ q at_usage usage n 0 in
    let takes = Takes Z 𝓛 𝓜.mem 𝓡.returns in let t : takes.Ghost = at_takes Z 𝓛 𝓜.mem 𝓡.returns κ q at_heap heap n al τ in
    let refused : Sq 𝓛 (‵ (flft κ q) ∷ (‵ (flft κs.1.0 qs.1.0) ⊛ ‵ ftrue) ∷ []) (prop (W.post y (answer_val false 0 0))) =
    suffices ! _ (ends_at 𝓛 (ended Z) (stayed Z) c y (answer_val false 0 0) (Err (record {})) (tt, (tt, (tt, tt))) (tt, (tt, (tt, tt)))) $
    use0 𝓛 (‵ (Answer.own_val (Err (record {})) (answer_val false 0 0 ∷ []))) (Answer-err 𝓛) $
    nothing ! $ nothing ! $ fjoin ! $ nothing ! $ fjoin ! $ nothing ! $ fjoin ! $ join ! $ move ! (1 ∷ 2 ∷ []) $ join ! $ join ! $ nothing ! $ move ! (1 ∷ []) $ done ! in
    let taken : (b o : ℕ) → Sq 𝓛 (‵ (got (token Z heap) τ true b o) ∷ ‵ (flft κ q) ∷ (‵ (flft κs.1.0 qs.1.0) ⊛ ‵ ftrue) ∷ []) (prop (W.post y (answer_val true b o))) = λ b o.
    suffices ! _ (ends_at 𝓛 (ended Z) (stayed Z) c y (answer_val true b o) (Ok (block_ptr b o)) (tt, (tt, (tt, tt))) (tt, (tt, (tt, tt)))) $
    use0 𝓛 (‵ (Answer.own_val (Ok (block_ptr b o)) (answer_val true b o ∷ []))) (Answer-Ok 𝓛 b o) $
    nothing ! $ nothing ! $ fjoin ! $ nothing ! $ fjoin ! $ nothing ! $ fjoin ! $ join ! $ move ! (2 ∷ 3 ∷ []) $ join ! $ join ! $ done ! in
    qed 𝓛 (((‵ (flft κ q) ⊛ ‵ (flft κs.1.0 qs.1.0) ⊛ ‵ ftrue) ⊛ ‵ (owns (types_at (ended Z).signature.params κs) a y.0.4)) ∷ (raw (fact 𝓤 (κs.1.0 ⊑ row.lives)) ⊛ raw (fact 𝓤 ((capped (size τ) ≡ n) × (capped (align τ) ≡ al)))) ∷ []) ∵
    move ! (1 ∷ []) $ split ! $ heard ! _ (λ outlived. heard ! _ (λ layout.
    split ! $ split ! $ move ! (2 ∷ []) $ fsplit ! $ fsplit ! $ move ! (1 ∷ []) $ unhide ! $ fsplit ! $ fsplit ! $
    use1 𝓛 (‵ (hidden_shr Counter κ usage at_usage.0 at_usage.1)) (id⊢ 𝓤 _) $ move ! (1 ∷ []) $ fsplit ! $ use1 𝓛 (‵ (seen Z κ at_heap heap)) (id⊢ 𝓤 _) $ keep ! (2 ∷ 6 ∷ 0 ∷ 7 ∷ []) $
    -- [the counter; the token; H; the other token]
    enter ! _ _ _ _ _ $ alloc_all ! (λ l. pass_all ! refl ((tt, tt), ((tt, record { fits = fits }), ((tt, record { fits = al_fits }), tt))) $
    sets ! (addr ! (through ! refl (fld ! refl (stop !)))) refl (tt, tt) $
    use2 𝓛 (raw (counts.pre z)) (goes_in 𝓛 𝓜.mem 𝓡.returns κ q at_usage usage n 0 fits (lit< tt)) $
    calls_at ! (framed 𝓤 𝓛.H 𝓜 𝓣) counts (count_met 𝓤 𝓛 𝓜 𝓡 (code.calls-refusing_heap::measured::count 𝓡.env wired)) z (and_then ! (get ! refl) (and_then ! (get ! refl) (and_then ! (lit ! tt) (no_more !)))) (λ v.
    use1 𝓛 (later (given (v ≡ vunit) (‵ (flft κ q)))) (comes_out 𝓛 𝓜.mem 𝓡.returns κ q at_usage usage n 0 v) $ await ! tt $ learn ! (λ e.
    lands_as ! e refl (tt, tt) $
    -- [the token; H; the other token]
    sets ! (addr ! (through ! refl (fld ! refl (stop !)))) refl (tt, tt) $ move ! (1 ∷ []) $
    use2 𝓛 (raw (takes.pre t)) (Takes-goes Z 𝓛 𝓜.mem 𝓡.returns κ q at_heap heap (⊑_trans κ κs.1.0 row.lives bounds.0 outlived) n al τ layout.0 layout.1 fits al_fits) $
    calls_at ! (framed 𝓤 𝓛.H 𝓜 𝓣) takes (met.allocate drops) t (and_then ! (get ! refl) (and_then ! (get ! refl) (and_then ! (get ! refl) (no_more !)))) (λ v'.
    use1 𝓛 (later (raw (Answered Z 𝓛 𝓜.mem 𝓡.returns heap τ v') ⊛ ‵ (flft κ q))) (Takes-gives Z 𝓛 𝓜.mem 𝓡.returns κ q at_heap heap n al τ v') $ await ! tt $ split ! $
    answers Z ! 𝓜.mem 𝓡.returns heap τ v'
    (λ b o e'. fjoin ! $ lands_as ! e' refl (Answer-typed true b o) $ returns ! (look_at ! 0 refl) $ free_all ! refl $ taken b o)
    (λ e'. lands_as ! e' refl (Answer-typed false 0 0) $ returns ! (look_at ! 0 refl) $ free_all ! refl $ refused))))))))
