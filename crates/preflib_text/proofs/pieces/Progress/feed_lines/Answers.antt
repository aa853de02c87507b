use Rattle.preflib_text.proofs.ReadLemmas.{ready}
use Rattle.std.proofs.lemmas.Result.{on_ok_weaker, IfErr-weaker}
use Rattle.preflib_text.specs.Pieces.{is_too_long}
use Rattle.preflib_text.specs.Steps.Pieces.{unmarked}
use Rattle.std.proofs.Common.{◌++◌, ◌≡◌, ℕ, ◌≤◌, ◌==◌, false, List, [], ◌∷◌, sym, ◌∙◌, length, refl, arith, rules}
use Rattle.std.proofs.lemmas.Grind.{common_steps}
use Rattle.std.proofs.lemmas.List.{length-append}
use Rattle.preflib_text.proofs.PieceLemmas.{loop_count, loop_refused, loop_next, loop_kept, loop_long, room_left, held_short}
use Rattle.preflib_text.proofs.pieces.Progress.feed_lines.Goals as goal

pub loop-at-init : goal.loop-at-init
loop-at-init g c = ((c.args._fed.now.bytes, refl, c.requires.fed), omega arith)

pub end_line-requires-clause-ready : goal.end_line-requires-clause-ready
end_line-requires-clause-ready g c = ready _ _ _ _ c.loop-at.invariant.0.2.after

pub end_line-requires-clause-number : goal.end_line-requires-clause-number
end_line-requires-clause-number g c =
    let count = loop_count _ _ _ _ _ _ _ _ c.loop-at.invariant.0.1 c.loop-at.invariant.0.2 in
    let whole = length-append c.args._fed.now.bytes c.args.bytes.now in
    omega (arith, count, whole, c.requires.length, c.in-Some.ensures.0.high)

pub end_line-requires-clause-held : goal.end_line-requires-clause-held
end_line-requires-clause-held g c = room_left c.loop-at.self.ended.number c.loop-at.self.held.items (held_short _ _ _ _ _ _ c.loop-at.invariant.0.2)

pub returns-in_err-end_line-clause-err : goal.returns-in_err-end_line-clause-err
returns-in_err-end_line-clause-err g c =
    let refused = loop_refused _ _ _ _ _ _ _ _ c.loop-at.invariant.0.1 c.loop-at.invariant.0.2 c.in-Some.at c.in-Some.ensures.0.high c.in-Some.ensures.1 c.in-Some.ensures.0.before c.in_err-end_line.field-0.0 c.in_err-end_line.ensures.err in
    search rules

pub overflow_add-rest : goal.overflow_add-rest
overflow_add-rest g c =
    let count = loop_count _ _ _ _ _ _ _ _ c.loop-at.invariant.0.1 c.loop-at.invariant.0.2 in
    let whole = length-append c.args._fed.now.bytes c.args.bytes.now in
    record { fits = omega (arith, count, whole, c.requires.length, c.in-Some.ensures.0.high) }

pub loop-at-preserved : goal.loop-at-preserved
loop-at-preserved g c = (
  loop_next _ _ _ _ _ _ _ _ c.loop-at.invariant.0.1 c.loop-at.invariant.0.2 c.in-Some.at c.in-Some.ensures.0.high c.in-Some.ensures.1 c.in-Some.ensures.0.before _ _ _ _ c.in_ok-end_line.ensures.ok c.in_ok-end_line.ensures.number c.in_ok-end_line.ensures.held,
  omega (arith, c.loop-at.invariant.1, c.in_ok-end_line.ensures.number),
)

some_bytes : (bytes : List ℕ) → (length bytes == 0) ≡ false → 1 ≤ length bytes
some_bytes [] some = absurd (cc)
some_bytes (b ∷ bytes) some = omega arith

pub hold-requires-clause-number : goal.hold-requires-clause-number
hold-requires-clause-number g c =
    let count = loop_count _ _ _ _ _ _ _ _ c.loop-at.invariant.0.1 c.loop-at.invariant.0.2 in
    let whole = length-append c.args._fed.now.bytes c.args.bytes.now in
    let some = some_bytes c.loop-at.rest.now (sym c.is_empty.ensures ∙ c.if-is_empty.false) in
    omega (arith, count, whole, c.requires.length, some)

pub hold-requires-clause-held : goal.hold-requires-clause-held
hold-requires-clause-held g c = room_left c.loop-at.self.ended.number c.loop-at.self.held.items (held_short _ _ _ _ _ _ c.loop-at.invariant.0.2)

pub returns-clause-ok : goal.returns-clause-ok
returns-clause-ok g c = on_ok_weaker c.hold.result (λ (h : (c.hold.new.self.held.items ≡ c.loop-at.self.held.items ++ c.loop-at.rest.now) × (is_too_long (unmarked c.loop-at.self.ended.number (c.loop-at.self.held.items ++ c.loop-at.rest.now)) ≡ false)). rw c.hold.ensures.ended (loop_kept _ _ _ _ _ _ _ _ c.loop-at.invariant.0.1 c.loop-at.invariant.0.2 c.in_default.ensures _ h.0 h.1)) c.hold.ensures.ok

pub returns-clause-err : goal.returns-clause-err
returns-clause-err g c = IfErr-weaker c.hold.result _ _ (λ fault h. loop_long _ _ _ _ _ _ _ _ c.loop-at.invariant.0.1 c.loop-at.invariant.0.2 c.in_default.ensures fault h.0 h.1) c.hold.ensures.err

pub returns-then-is_empty-clause-ok : goal.returns-then-is_empty-clause-ok
returns-then-is_empty-clause-ok g c = grind (arith, common_steps)
