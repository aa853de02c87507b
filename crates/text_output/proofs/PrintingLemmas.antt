-- Prints joined one after the other.
use Rattle.std.proofs.Common.{◌≡◌, ℕ, ◌<◌, ◌≤◌, ◌+◌, ◌-◌, Bool, true, false, not, ◌&&◌, ◌||◌, List, [], ◌++◌, Option, Some, None, Result, Ok, Err, refl, sym, ap, subst, ◌∙◌, append_assoc, append-nil, length, take, drop, take-append-drop, true≢false, arith, length-drop, get_or, suc}
use Rattle.std.specs.Prelude.{◌==◌, is_ok, IsErr, flat_map}
use Rattle.std.specs.Io.KnownBytes.{Appends, Keeps}
use Rattle.std.proofs.KnownBytes.{Appends-nil, Appends-trans}
use Rattle.std.proofs.Math.Seq.{take-add, drop-cons}
use Rattle.std.proofs.lemmas.List.{take_rest}
use Rattle.text_output.specs.Steps.Printing.{Calls, Outlet, Passes, Prints, PrintsAll, Sends, SendsAll, flushed, flushed_once, outlet}
use Rattle.text_output.specs.declared.printing.Printer.{Printer}

-- a text after a text that was printed
pub Passes-then : {a b c : Outlet} {x y : List ℕ} {ok : Bool} → Passes a b true x → Passes b c ok y → Passes a c ok (x ++ y)
Passes-then {a} {b} {c} {x} {y} first second = record {
  sent = first.sent ++ second.sent;
  rest = second.rest;
  order = append_assoc first.sent second.sent second.rest
      ∙ ap (λ l. first.sent ++ l) second.order
      ∙ ap (λ l. first.sent ++ (l ++ y)) (sym (first.whole refl).0)
      ∙ sym (append_assoc first.sent first.rest y)
      ∙ ap (λ l. l ++ y) first.order
      ∙ append_assoc a.waiting x y;
  took = Appends-trans _ _ _ _ _ first.took second.took;
  whole = λ e. ((second.whole e).0, (second.whole e).1 ∙ (first.whole refl).1);
  broken = second.broken;
}

-- what broke off is a beginning of whatever would have come
pub Passes-broken : {a b : Outlet} {x : List ℕ} (y : List ℕ) → Passes a b false x → Passes a b false (x ++ y)
Passes-broken {a} {b} {x} y broken = record {
  sent = broken.sent;
  rest = broken.rest ++ y;
  order = sym (append_assoc broken.sent broken.rest y) ∙ ap (λ l. l ++ y) broken.order ∙ append_assoc a.waiting x y;
  took = broken.took;
  whole = λ e. absurd (true≢false (sym e));
  broken = broken.broken;
}

-- the same, as if there had been a flush before
pub Passes-flushed : {before after : Outlet} {text : List ℕ} → Passes before after true text → Passes (flushed before) (flushed after) true text
Passes-flushed h = record {
  sent = h.sent;
  rest = h.rest;
  order = h.order;
  took = h.took;
  whole = λ e. ((h.whole e).0, ap flushed_once (h.whole e).1);
  broken = λ e. absurd (true≢false e);
}

-- or if it broke off
pub Passes-cut : {before after : Outlet} {text : List ℕ} → Passes before after false text → Passes (flushed before) after false text
Passes-cut h = record {
  sent = h.sent;
  rest = h.rest;
  order = h.order;
  took = h.took;
  whole = λ e. absurd (true≢false (sym e));
  broken = h.broken;
}

-- no text
Passes-nothing : (a : Outlet) → Passes a a true []
Passes-nothing a = record {
  sent = [];
  rest = a.waiting;
  order = sym (append-nil a.waiting);
  took = Appends-nil a.taken;
  whole = λ e. (refl, refl);
  broken = λ e. absurd (true≢false e);
}

-- a result that is an error
pub is_ok-err : {V E : Type 0} (r : Result V E) → IsErr r → is_ok r ≡ false
is_ok-err (Ok v) bad = absurd (true≢false (sym bad))
is_ok-err (Err e) bad = refl

-- what is known of calls is these two
pub same-calls : (one other : Calls) → one.has_failed ≡ other.has_failed → one.flushes ≡ other.flushes → one ≡ other
same-calls one other failed flushes = ap (λ b. record { has_failed = b; flushes = one.flushes }) failed ∙ ap (λ n. record { has_failed = other.has_failed; flushes = n }) flushes

module _ {W : Type 0} {contents : W → Option (List ℕ)} {calls : W → Calls} where
  -- a text after a text that was printed
  pub Prints-then : {a b c : Printer W} {x y : List ℕ} {ok : Bool} → Prints contents calls a b true x
      → Prints contents calls b c ok y → Prints contents calls a c ok (x ++ y)
  Prints-then first second =
      record { same_writer = second.same_writer ∙ first.same_writer; passed = Passes-then first.passed second.passed }

  -- what broke off is a beginning of whatever would have come
  pub Prints-broken : {a b : Printer W} {x : List ℕ} (y : List ℕ) → Prints contents calls a b false x
      → Prints contents calls a b false (x ++ y)
  Prints-broken y broken = record { same_writer = broken.same_writer; passed = Passes-broken y broken.passed }

  -- no text
  pub Prints-nothing : (a : Printer W) → Prints contents calls a a true []
  Prints-nothing a = record { same_writer = refl; passed = Passes-nothing _ }

  -- a text that waits
  pub Prints-pending : {a b : Printer W} (x : List ℕ) → b.out ≡ a.out → b.pending.items ≡ a.pending.items ++ x
      → Prints contents calls a b true x
  Prints-pending {a} {b} x kept same = record {
    same_writer = ap (λ out. out.ghost_name) kept;
    passed = record {
      sent = [];
      rest = a.pending.items ++ x;
      order = refl;
      took = subst (λ out. Appends (contents a.out.now) (contents out.now) []) (sym kept) (Appends-nil (contents a.out.now));
      whole = λ e. (sym same, ap (λ out. calls out.now) kept);
      broken = λ e. absurd (true≢false e);
    };
  }

  -- the text of a call that gave `Ok`
  pub Prints-ok : {a b : Printer W} {x : List ℕ} {V E : Type 0} (r : Result V E) (v : V) → r ≡ Ok v
      → Prints contents calls a b (is_ok r) x → Prints contents calls a b true x
  Prints-ok {a} {b} {x} r v e h = subst (λ s. Prints contents calls a b (is_ok s) x) e h

  -- the same text in other words
  pub Prints-as : {a b : Printer W} {x y : List ℕ} {ok : Bool} → x ≡ y → Prints contents calls a b ok x → Prints contents calls a b ok y
  Prints-as {a} {b} {x} {y} {ok} same h = subst (Prints contents calls a b ok) same h

  -- what was printed by a call that gave `Ok`, and what was printed after it
  pub goes_on : {a b c : Printer W} {x y z : List ℕ} {ok : Bool} {V E : Type 0} (r : Result V E) (v : V) → r ≡ Ok v → z ≡ x ++ y
      → Prints contents calls a b (is_ok r) x → Prints contents calls b c ok y → Prints contents calls a c ok z
  goes_on r v e same first second = Prints-as (sym same) (Prints-then (Prints-ok r v e first) second)

  -- where a call gave `Err`, and the function passes that on
  pub breaks_off : {a b : Printer W} {x z : List ℕ} {V U E F : Type 0} (y : List ℕ) (r : Result V E) (e : E) (q : Result U F) → r ≡ Err e → IsErr q
      → z ≡ x ++ y → Prints contents calls a b (is_ok r) x → Prints contents calls a b (is_ok q) z
  breaks_off y r e (Ok w) was bad same first = absurd (true≢false (sym bad))
  breaks_off {a} {b} {x} {z} y r e (Err f) was bad same first =
      let broken : Prints contents calls a b false x = subst (λ s. Prints contents calls a b (is_ok s) x) was first in
      Prints-as (sym same) (Prints-broken y broken)

  -- the same after a text that was printed before
  pub goes_on_after : {a b c : Printer W} {done x : List ℕ} {V E : Type 0} (r : Result V E) (v : V) → r ≡ Ok v
      → Prints contents calls a b true done → Prints contents calls b c (is_ok r) x → Prints contents calls a c true (done ++ x)
  goes_on_after r v e first second = Prints-then first (Prints-ok r v e second)

  pub breaks_off_after : {a b c : Printer W} {done x z : List ℕ} {V U E F : Type 0} (rest : List ℕ) (r : Result V E) (e : E) (q : Result U F) → r ≡ Err e → IsErr q
      → done ++ (x ++ rest) ≡ z → Prints contents calls a b true done → Prints contents calls b c (is_ok r) x → Prints contents calls a c (is_ok q) z
  breaks_off_after {a} {b} {c} {done} {x} {z} rest r e q was bad same first second =
      breaks_off rest r e q was bad (sym same ∙ sym (append_assoc done x rest)) (Prints-then first second)

  -- a text after what was printed before, as the last
  pub Prints-last : {a b c : Printer W} {x y z : List ℕ} {ok : Bool} → z ≡ x ++ y → Prints contents calls a b true x
      → Prints contents calls b c ok y → Prints contents calls a c ok z
  Prints-last same first second = Prints-as (sym same) (Prints-then first second)

  -- nothing waits, and a text was sent
  pub Prints-straight : {a b : Printer W} {x : List ℕ} {ok : Bool} → b.out.ghost_name ≡ a.out.ghost_name → a.pending.items ≡ [] → b.pending.items ≡ a.pending.items
      → Sends contents calls a.out.now b.out.now ok x → Prints contents calls a b ok x
  Prints-straight {a} {b} {x} {ok} same none kept h = record {
    same_writer = same;
    passed = record {
      sent = h.sent;
      rest = h.rest;
      order = h.order ∙ ap (λ p. p ++ x) (sym none);
      took = h.took;
      whole = λ e. ((h.whole e).0 ∙ sym (kept ∙ none), (h.whole e).1);
      broken = h.broken;
    };
  }

  -- what a printer printed from its first byte to its last, its writer was sent
  pub Sends-by : {a b : Printer W} {before after : W} {x : List ℕ} {ok : Bool} → a.out.now ≡ before → a.pending.items ≡ [] → (ok ≡ true → b.pending.items ≡ [])
      → b.out.now ≡ after → Prints contents calls a b ok x → Sends contents calls before after ok x
  Sends-by {a} {b} {before} {after} {x} {ok} first none done last h = record {
    sent = h.passed.sent;
    rest = h.passed.rest;
    order = h.passed.order ∙ ap (λ p. p ++ x) none;
    took = subst (λ w. Appends (contents before) (contents w) h.passed.sent) last
        (subst (λ w. Appends (contents w) (contents b.out.now) h.passed.sent) first h.passed.took);
    whole = λ e. ((h.passed.whole e).0 ∙ done e, ap calls (sym last) ∙ (h.passed.whole e).1 ∙ ap calls first);
    broken = λ e. ap (λ w. (calls w).has_failed) (sym last) ∙ h.passed.broken e;
  }

  -- the same of what it printed before a call that failed
  pub Sends-cut : {a b : Printer W} {before after : W} {x : List ℕ} {V E : Type 0} → a.out.now ≡ before → a.pending.items ≡ [] → (q : Result V E) → IsErr q
      → b.out.now ≡ after → Prints contents calls a b (is_ok q) x → Sends contents calls before after (is_ok q) x
  Sends-cut first none q bad last h = Sends-by first none (λ e. absurd (true≢false (sym e ∙ is_ok-err q bad))) last h

  -- ---- and flushes

  -- a text that is not printed whole is followed by no flush
  pub PrintsAll-broken : {a b : Printer W} {x : List ℕ} {V E : Type 0} (q : Result V E) → IsErr q → Prints contents calls a b (is_ok q) x → PrintsAll contents calls a b (is_ok q) x
  PrintsAll-broken q bad h = record {
    same_writer = h.same_writer;
    passed = record {
      sent = h.passed.sent;
      rest = h.passed.rest;
      order = h.passed.order;
      took = h.passed.took;
      whole = λ e. absurd (true≢false (sym e ∙ is_ok-err q bad));
      broken = h.passed.broken;
    };
  }

  -- a text, and the last one with the flush
  pub PrintsAll-last : {a b c : Printer W} {x y z : List ℕ} {ok : Bool} → z ≡ x ++ y → Prints contents calls a b true x
      → PrintsAll contents calls b c ok y → PrintsAll contents calls a c ok z
  PrintsAll-last {a} {b} {c} {x} {y} {z} {ok} same first last =
      subst (PrintsAll contents calls a c ok) (sym same) (record {
        same_writer = last.same_writer ∙ first.same_writer;
        passed = Passes-then {a = flushed (outlet contents calls a.out.now a.pending.items)} {b = flushed (outlet contents calls b.out.now b.pending.items)} (Passes-flushed first.passed) last.passed;
      })

  -- a text that was printed, and a last one with the flush
  pub goes_on_all : {a b c : Printer W} {x y z : List ℕ} {ok : Bool} {V E : Type 0} (r : Result V E) (v : V) → r ≡ Ok v → z ≡ x ++ y
      → Prints contents calls a b (is_ok r) x → PrintsAll contents calls b c ok y → PrintsAll contents calls a c ok z
  goes_on_all r v was same first last = PrintsAll-last same (Prints-ok r v was first) last

  -- what a printer printed from its first byte to its last and flushed, its writer was sent and flushed
  pub SendsAll-by : {a b : Printer W} {before after : W} {x : List ℕ} {ok : Bool} → a.out.now ≡ before → a.pending.items ≡ [] → (ok ≡ true → b.pending.items ≡ [])
      → b.out.now ≡ after → PrintsAll contents calls a b ok x → SendsAll contents calls before after ok x
  SendsAll-by {a} {b} {before} {after} {x} {ok} first none done last h = record {
    sent = h.passed.sent;
    rest = h.passed.rest;
    order = h.passed.order ∙ ap (λ p. p ++ x) none;
    took = subst (λ w. Appends (contents before) (contents w) h.passed.sent) last
        (subst (λ w. Appends (contents w) (contents b.out.now) h.passed.sent) first h.passed.took);
    whole = λ e. (
      (h.passed.whole e).0 ∙ done e,
      ap calls (sym last) ∙ (h.passed.whole e).1 ∙ ap (λ w. flushed_once (calls w)) first,
    );
    broken = λ e. ap (λ w. (calls w).has_failed) (sym last) ∙ h.passed.broken e;
  }

  -- the same of what it printed before a call that failed
  pub SendsAll-cut : {a b : Printer W} {before after : W} {x : List ℕ} {V E : Type 0} → a.out.now ≡ before → a.pending.items ≡ [] → (q : Result V E) → IsErr q
      → b.out.now ≡ after → Prints contents calls a b (is_ok q) x → SendsAll contents calls before after (is_ok q) x
  SendsAll-cut first none q bad last h = SendsAll-by first none (λ e. absurd (true≢false (sym e ∙ is_ok-err q bad))) last (PrintsAll-broken q bad h)

-- ---- a loop that prints

module _ {W : Type 0} (contents : W → Option (List ℕ)) (calls : W → Calls) where
  -- a beginning of the whole text was printed, and this is left of it
  pub record Underway (before now : Printer W) (left whole : List ℕ) : Type 0 where
    pub done : List ℕ
    pub printed : Prints contents calls before now true done
    pub parts : done ++ left ≡ whole

module _ {W : Type 0} {contents : W → Option (List ℕ)} {calls : W → Calls} where
  pub starts : (a : Printer W) {whole left : List ℕ} → left ≡ whole → Underway contents calls a a left whole
  starts a same = record { done = []; printed = Prints-nothing a; parts = same }

  -- a text more
  pub next : {a b c : Printer W} {left rest x whole : List ℕ} {V E : Type 0} → Underway contents calls a b left whole → left ≡ x ++ rest → (r : Result V E) (v : V) → r ≡ Ok v
      → Prints contents calls b c (is_ok r) x → Underway contents calls a c rest whole
  next {rest = rest} {x = x} so_far parts r v was here = record {
    done = so_far.done ++ x;
    printed = goes_on_after r v was so_far.printed here;
    parts = append_assoc so_far.done x rest ∙ ap (λ l. so_far.done ++ l) (sym parts) ∙ so_far.parts;
  }

  -- a text that was not printed whole
  pub stops : {a b c : Printer W} {left x whole : List ℕ} {V U E F : Type 0} (rest : List ℕ) → Underway contents calls a b left whole → left ≡ x ++ rest → (r : Result V E) (e : E) (q : Result U F)
      → r ≡ Err e → IsErr q → Prints contents calls b c (is_ok r) x → Prints contents calls a c (is_ok q) whole
  stops rest so_far parts r e q was bad here = breaks_off_after rest r e q was bad (ap (λ l. so_far.done ++ l) (sym parts) ∙ so_far.parts) so_far.printed here

  -- what is left, in other words
  pub passes_on : {a b : Printer W} {left other whole : List ℕ} → left ≡ other → Underway contents calls a b left whole → Underway contents calls a b other whole
  passes_on {a} {b} {left} {other} {whole} same h = subst (λ l. Underway contents calls a b l whole) same h

  -- the last text
  pub ends_with : {a b c : Printer W} {left whole : List ℕ} {ok : Bool} → Underway contents calls a b left whole → Prints contents calls b c ok left → Prints contents calls a c ok whole
  ends_with so_far last = Prints-last (sym so_far.parts) so_far.printed last

-- ---- pieces

-- the pieces from one on are that piece and those after it
pub flat_map-drop : {X : Type 0} (f : X → List ℕ) (xs : List X) (i : ℕ) (d : X) → i < length xs → flat_map f (drop i xs) ≡ f (get_or xs i d) ++ flat_map f (drop (i + 1) xs)
flat_map-drop f xs i d within = ap (flat_map f) (drop-cons xs i d within) ∙ ap (λ k. f (get_or xs i d) ++ flat_map f (drop k xs)) (add-one-sym i)
  where
    add-one-sym : (n : ℕ) → suc n ≡ n + 1
    add-one-sym n = omega arith

-- ---- the loop that writes

-- a writer alone, of which no byte waits
abbrev pub alone : Option (List ℕ) → Calls → Outlet
alone taken calls = record { taken = taken; waiting = []; calls = calls }

pub took-more : (a b c : Option (List ℕ)) (xs : List ℕ) (s n : ℕ) → Appends a b (take s xs) → Appends b c (take n (take (length xs - s) (drop s xs))) → Appends a c (take (s + n) xs)
took-more a b c xs s n first second =
    let same : take s xs ++ take n (take (length xs - s) (drop s xs)) ≡ take (s + n) xs =
    ap (λ l. take s xs ++ take n l) (take_rest xs s) ∙ sym (take-add s n xs) in
    subst (Appends a c) same (Appends-trans a b c _ _ first second)

pub within-more : (xs : List ℕ) (s n : ℕ) → s ≤ length xs → n ≤ length (take (length xs - s) (drop s xs)) → s + n ≤ length xs
within-more xs s n low h = omega (arith, rw (take_rest xs s, length-drop s xs) at h)

-- a write that took some bytes did not fail
pub unfailed-write : (before after : Bool) (n : ℕ) (bytes : List ℕ) → 0 < n → after ≡ (before || ((n == 0) && not (length bytes == 0))) → after ≡ before
unfailed-write before after n bytes some e = grind (arith, e)

-- and one that took none of some bytes did
pub failed-write : (before after : Bool) (n : ℕ) (bytes : List ℕ) → n ≤ 0 → 0 < length bytes → after ≡ (before || ((n == 0) && not (length bytes == 0))) → after ≡ true
failed-write before after n bytes none some e = grind (arith, e)

pub Appends-kept : (a b : Option (List ℕ)) → Keeps a b → Appends a b []
Appends-kept None b h = tt
Appends-kept (Some x) None h = h
Appends-kept (Some x) (Some y) h = h ∙ sym (append-nil x)

pub Appends-none : (a b : Option (List ℕ)) (n : ℕ) (xs : List ℕ) → n ≤ 0 → Appends a b (take n xs) → Appends a b []
Appends-none a b n xs none h =
    let same : take n xs ≡ [] = ap (λ k. take k xs) (let z : n ≡ 0 = omega arith in z) in
    subst (Appends a b) same h

-- the loop broke off after the first s bytes
pub Passes-part : (a b c : Option (List ℕ)) (xs : List ℕ) (s : ℕ) (before after : Calls) → Appends a b (take s xs) → Appends b c [] → after.has_failed ≡ true → Passes (alone a before) (alone c after) false xs
Passes-part a b c xs s before after first second failed = record {
  sent = take s xs;
  rest = drop s xs;
  order = take-append-drop s xs;
  took = subst (Appends a c) (append-nil (take s xs)) (Appends-trans a b c _ _ first second);
  whole = λ e. absurd (true≢false (sym e));
  broken = λ e. failed;
}
