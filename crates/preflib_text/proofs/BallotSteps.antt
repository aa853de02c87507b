-- A token more, and the marks.
use Rattle.std.proofs.Common.{◌≡◌, ℕ, ◌+◌, ◌<◌, ◌≤◌, cond, Bool, true, false, is_some, length, List, [], ◌∷◌, Option, Some, None, refl, sym, ap, ◌∙◌, arith, inl, inr}
use Rattle.std.specs.Option.{option_map, option_and_then}
use Rattle.std.proofs.lemmas.Bool.{cases_lt, lt-ltb, ne_eqb}
use Rattle.std.proofs.lemmas.Bool.Decides.{nat_tests}
use Rattle.ballot_base.specs.Limits.{most_candidates, most_voters}
use Rattle.preflib_text.specs.declared.fault.FaultName.{FaultName}
use Rattle.preflib_text.specs.declared.fault.FaultName.TheVariants.{NoSuchCandidate}
use Rattle.preflib_text.specs.declared.approvals.Taking.{Taking}
use Rattle.preflib_text.specs.declared.approvals.Taking.TheVariants.{Category, SetSize, Classes}
use Rattle.preflib_text.specs.declared.approvals.Marks.{Marks}
use Rattle.preflib_text.specs.declared.ballot.Token.{Token}
use Rattle.preflib_text.specs.declared.ballot.Token.TheVariants.{Number, Comma, Open, Close}
use Rattle.preflib_text.specs.declared.ballot.OrderPlace.{OrderPlace}
use Rattle.preflib_text.specs.declared.ballot.OrderPlace.TheVariants.{Order, Class, Between, Opened, Inner, Listed}
use Rattle.preflib_text.specs.Lines.{onto_first}
use Rattle.preflib_text.specs.Reading.{or_else}
use Rattle.preflib_text.specs.Steps.Tokens.{capped, capped_token, tokens_of, IsFirstToken, IsListedNumber, IsLastNumber, next_place, is_end, order_at}
use Rattle.preflib_text.specs.Steps.Marks.{wrong_with, takes, is_past, with_new, with_number, with_end, with_classes, with_read, marks_at, IsReadOn}
use Rattle.preflib_text.proofs.BallotRead.{some, map_some}
use Rattle.preflib_text.proofs.ListedNumbers.{open_first}

-- ---- numbers that are capped

capped-small : (n : ℕ) → n < (most_voters + 1) → capped n ≡ n
capped-small n h = omega arith

wrong_with-large : (m n : ℕ) (marks : Marks) → m < n → wrong_with m marks n ≡ or_else marks.wrong (Some NoSuchCandidate)
wrong_with-large m n marks h =
    rw (ne_eqb n 0 (λ e. omega (arith, e)), lt-ltb m n h) refl

pub with_number-wrong : (m : ℕ) (way : Taking) (marks : Marks) (n : ℕ) (name : FaultName) → wrong_with m marks n ≡ Some name → with_number m way marks n ≡ record marks { wrong = Some name; numbers = marks.numbers + 1 }
with_number-wrong m way marks n name e = rw e refl

or_else-some : (first : Option FaultName) (name : FaultName) → (one : FaultName) × (or_else first (Some name) ≡ Some one)
or_else-some None name = (name, refl)
or_else-some (Some one) name = (one, refl)

-- a number above m does not change the sets, so that its value makes no difference
with_number-large : (m : ℕ) (way : Taking) (marks : Marks) (n k : ℕ) → m < n → m < k → with_number m way marks n ≡ with_number m way marks k
with_number-large m way marks n k h i =
    let one = or_else-some marks.wrong NoSuchCandidate in
    with_number-wrong m way marks n one.0 (wrong_with-large m n marks h ∙ one.1) ∙ sym (with_number-wrong m way marks k one.0 (wrong_with-large m k marks i ∙ one.1))

pub with_number-capped : (m : ℕ) (way : Taking) (marks : Marks) (n : ℕ) → m ≤ most_candidates → with_number m way marks (capped n) ≡ with_number m way marks n
with_number-capped m way marks n h =
    elim (cases_lt n (most_voters + 1)) [
      | inl low ↦ ap (with_number m way marks) (capped-small n low)
      | inr high ↦ with_number-large m way marks (capped n) n (omega arith) (omega arith)
    ]

with_read-capped : (m : ℕ) (way : Taking) (place : OrderPlace) (token : Token) (marks : Marks) → m ≤ most_candidates → with_read m way place (capped_token token) marks ≡ with_read m way place token marks
with_read-capped m way Order (Number n) marks h = ap with_end (with_number-capped m way marks n h)
with_read-capped m way Class (Number n) marks h = ap with_end (with_number-capped m way marks n h)
with_read-capped m way Opened (Number n) marks h = with_number-capped m way marks n h
with_read-capped m way Inner (Number n) marks h = with_number-capped m way marks n h
with_read-capped m way Between (Number n) marks h = refl
with_read-capped m way Listed (Number n) marks h = refl
with_read-capped m way place token marks h = refl

next_place-capped : (place : OrderPlace) (token : Token) → next_place place (capped_token token) ≡ next_place place token
next_place-capped Order (Number n) = refl
next_place-capped Class (Number n) = refl
next_place-capped Opened (Number n) = refl
next_place-capped Inner (Number n) = refl
next_place-capped Between (Number n) = refl
next_place-capped Listed (Number n) = refl
next_place-capped place token = refl

none_of : (o : Option FaultName) → is_some o ≡ false → o ≡ None
none_of None e = refl
none_of (Some name) e = cc

-- ---- classes that are not taken any more

pub past_takes : (way : Taking) (classes before : ℕ) → is_past way classes before ≡ true → false ≡ takes way classes before
past_takes (Category n) classes before past = grind (arith, nat_tests)
past_takes (SetSize n) classes before past = grind (arith, nat_tests)
past_takes (Classes n) classes before past = grind (arith, nat_tests)

pub past_later : (way : Taking) (classes before later more : ℕ) → classes ≤ later → before ≤ more → is_past way classes before ≡ true → is_past way later more ≡ true
past_later (Category n) classes before later more h i past = grind (arith, nat_tests)
past_later (SetSize n) classes before later more h i past = grind (arith, nat_tests)
past_later (Classes n) classes before later more h i past = grind (arith, nat_tests)

-- ---- the marks of a token and of the classes after it

-- inside braces a class is left
abbrev IsInClass : OrderPlace → Type 0
IsInClass Opened = Unit {0}
IsInClass Inner = Unit {0}
IsInClass Listed = Unit {0}
IsInClass place = ⊥

onto_first-some : (n : ℕ) (cs : List (List ℕ)) → onto_first n cs ≡ [] → ⊥
onto_first-some n [] e = cc
onto_first-some n (c ∷ cs) e = cc

class_left : (place : OrderPlace) (tokens : List Token) → IsInClass place → order_at place tokens ≡ Some [] → ⊥
unfolding order_at
class_left Opened (Number n ∷ ts) i e =
    let m = map_some (onto_first n) (order_at Listed ts) [] e in onto_first-some n m.0 m.2
class_left Opened (Close ∷ ts) i e =
    let m = map_some (λ cs. [] ∷ cs) (order_at Between ts) [] e in let h = m.2 in cc
class_left Inner (Number n ∷ ts) i e =
    let m = map_some (onto_first n) (order_at Listed ts) [] e in onto_first-some n m.0 m.2
class_left Listed (Comma ∷ ts) i e =
    let m = map_some (λ cs. cs) (order_at Inner ts) [] e in class_left Inner ts tt (m.1 ∙ ap (λ (cs : List (List ℕ)). Some cs) m.2)
class_left Listed (Close ∷ ts) i e =
    let m = map_some (λ cs. [] ∷ cs) (order_at Between ts) [] e in let h = m.2 in cc
class_left Order ts i e = i
class_left Class ts i e = i
class_left Between ts i e = i
class_left place ts i e = cc

module _ (m : ℕ) (way : Taking) where
  abbrev pub marked : Marks → Option (List (List ℕ)) → Option Marks
  marked marks o = option_map (with_classes m way marks) o

  same_marks : (marks : Marks) (o : Option (List (List ℕ))) → marked marks (option_map (λ cs. cs) o) ≡ marked marks o
  same_marks marks None = refl
  same_marks marks (Some cs) = refl

  bare_marks : (marks : Marks) (n : ℕ) (o : Option (List (List ℕ))) → marked marks (option_map (λ cs. (n ∷ []) ∷ cs) o) ≡ marked (with_end (with_number m way marks n)) o
  bare_marks marks n None = refl
  bare_marks marks n (Some cs) = refl

  end_marks : (marks : Marks) (o : Option (List (List ℕ))) → marked marks (option_map (λ cs. [] ∷ cs) o) ≡ marked (with_end marks) o
  end_marks marks None = refl
  end_marks marks (Some cs) = refl

  number_marks : (marks : Marks) (n : ℕ) (o : Option (List (List ℕ))) → (o ≡ Some [] → ⊥) → marked marks (option_map (onto_first n) o) ≡ marked (with_number m way marks n) o
  number_marks marks n None some = refl
  number_marks marks n (Some []) some = absurd (some refl)
  number_marks marks n (Some (c ∷ cs)) some = refl

  token_marks : (place : OrderPlace) (token : Token) (tokens : List Token) (marks : Marks) → marked marks (order_at place (token ∷ tokens)) ≡ option_and_then (λ next. marked (with_read m way place token marks) (order_at next tokens)) (next_place place token)
  unfolding order_at
  token_marks Order (Number n) ts marks = bare_marks marks n (order_at Between ts)
  token_marks Class (Number n) ts marks = bare_marks marks n (order_at Between ts)
  token_marks Order Open ts marks = same_marks marks (order_at Opened ts)
  token_marks Class Open ts marks = same_marks marks (order_at Opened ts)
  token_marks Between Comma ts marks = same_marks marks (order_at Class ts)
  token_marks Listed Comma ts marks = same_marks marks (order_at Inner ts)
  token_marks Opened (Number n) ts marks = number_marks marks n (order_at Listed ts) (class_left Listed ts tt)
  token_marks Inner (Number n) ts marks = number_marks marks n (order_at Listed ts) (class_left Listed ts tt)
  token_marks Opened Close ts marks = end_marks marks (order_at Between ts)
  token_marks Listed Close ts marks = end_marks marks (order_at Between ts)
  token_marks place token ts marks = refl

  -- ---- the steps of the loop

  pub marks_more : (place next : OrderPlace) (read : Token) (text rest : List ℕ) (marks : Marks) → m ≤ most_candidates → IsFirstToken text read rest → next_place place read ≡ Some next → marked (with_read m way place read marks) (order_at next (tokens_of rest)) ≡ marked marks (order_at place (tokens_of text))
  marks_more place next read text rest marks h (token, is, whole, shorter) e =
      let to : next_place place token ≡ Some next = sym (next_place-capped place token) ∙ ap (next_place place) (sym is) ∙ e in
      let same : with_read m way place read marks ≡ with_read m way place token marks = ap (λ (t : Token). with_read m way place t marks) is ∙ with_read-capped m way place token marks h in
      sym (ap (λ (ts : List Token). marked marks (order_at place ts)) whole ∙ token_marks place token (tokens_of rest) marks ∙ rw to refl ∙ ap (λ (after : Marks). marked after (order_at next (tokens_of rest))) (sym same))

  pub marks_fail : (place : OrderPlace) (read : Token) (text rest : List ℕ) (marks : Marks) → IsFirstToken text read rest → next_place place read ≡ None → marked marks (order_at place (tokens_of text)) ≡ None
  marks_fail place read text rest marks (token, is, whole, shorter) e =
      let to : next_place place token ≡ None = sym (next_place-capped place token) ∙ ap (next_place place) (sym is) ∙ e in
      ap (λ (ts : List Token). marked marks (order_at place ts)) whole ∙ token_marks place token (tokens_of rest) marks ∙ rw to refl

  pub marks_last : (place : OrderPlace) (text : List ℕ) (marks : Marks) → tokens_of text ≡ [] → marked marks (order_at place (tokens_of text)) ≡ cond (is_end place) (Some marks) None
  unfolding order_at
  marks_last Order text marks e = rw e refl
  marks_last Class text marks e = rw e refl
  marks_last Between text marks e = rw e refl
  marks_last Opened text marks e = rw e refl
  marks_last Inner text marks e = rw e refl
  marks_last Listed text marks e = rw e refl

  -- a number with a comma right after it
  pub listed_more : (place next : OrderPlace) (n : ℕ) (text rest : List ℕ) (marks : Marks) → m ≤ most_candidates → IsListedNumber text n rest → option_and_then (λ at. next_place at Comma) (next_place place (Number n)) ≡ Some next → marked (with_read m way place (Number n) marks) (order_at next (tokens_of rest)) ≡ marked marks (order_at place (tokens_of text))
  listed_more Order next n text rest marks h l e = marks_more Between next Comma (44 ∷ rest) rest (with_read m way Order (Number n) marks) h l.1 e ∙ marks_more Order Between (Number n) text (44 ∷ rest) marks h l.0 refl
  listed_more Class next n text rest marks h l e = marks_more Between next Comma (44 ∷ rest) rest (with_read m way Class (Number n) marks) h l.1 e ∙ marks_more Class Between (Number n) text (44 ∷ rest) marks h l.0 refl
  listed_more Opened next n text rest marks h l e = marks_more Listed next Comma (44 ∷ rest) rest (with_read m way Opened (Number n) marks) h l.1 e ∙ marks_more Opened Listed (Number n) text (44 ∷ rest) marks h l.0 refl
  listed_more Inner next n text rest marks h l e = marks_more Listed next Comma (44 ∷ rest) rest (with_read m way Inner (Number n) marks) h l.1 e ∙ marks_more Inner Listed (Number n) text (44 ∷ rest) marks h l.0 refl
  listed_more place next n text rest marks h l e = absurd (cc)

  pub listed_fail : (place : OrderPlace) (n : ℕ) (text rest : List ℕ) (marks : Marks) → IsListedNumber text n rest → option_and_then (λ at. next_place at Comma) (next_place place (Number n)) ≡ None → marked marks (order_at place (tokens_of text)) ≡ None
  listed_fail Between n text rest marks l e = marks_fail Between (Number n) text (44 ∷ rest) marks l.0 refl
  listed_fail Listed n text rest marks l e = marks_fail Listed (Number n) text (44 ∷ rest) marks l.0 refl
  listed_fail place n text rest marks l e = absurd (cc)

  -- ---- how many classes and numbers there are

  pub record Counts (old new : Marks) (more : ℕ) : Type 0 where
    pub classes : new.classes ≤ old.classes + more
    pub numbers : new.before + new.numbers ≤ old.before + old.numbers + 1

  number_counts : (marks : Marks) (n : ℕ) (o : Option FaultName) → wrong_with m marks n ≡ o → ((with_number m way marks n).classes ≡ marks.classes) × ((with_number m way marks n).before ≡ marks.before) × ((with_number m way marks n).numbers ≡ marks.numbers + 1)
  number_counts marks n None e = rw e (refl, refl, refl)
  number_counts marks n (Some name) e = rw e (refl, refl, refl)

  counts_number : (marks : Marks) (n : ℕ) → Counts marks (with_number m way marks n) 0
  counts_number marks n =
      let c = number_counts marks n (wrong_with m marks n) refl in
      record { classes = omega (arith, c.0); numbers = omega (arith, c.1, c.2) }

  counts_bare : (marks : Marks) (n : ℕ) → Counts marks (with_end (with_number m way marks n)) 1
  counts_bare marks n =
      let c = number_counts marks n (wrong_with m marks n) refl in
      record { classes = omega (arith, c.0); numbers = omega (arith, c.1, c.2) }

  pub counts_read : (place : OrderPlace) (token : Token) (marks : Marks) → Counts marks (with_read m way place token marks) 1
  counts_read Order (Number n) marks = counts_bare marks n
  counts_read Class (Number n) marks = counts_bare marks n
  counts_read Opened (Number n) marks = let c = counts_number marks n in record { classes = omega (arith, c.classes); numbers = c.numbers }
  counts_read Inner (Number n) marks = let c = counts_number marks n in record { classes = omega (arith, c.classes); numbers = c.numbers }
  counts_read Listed Close marks = record { classes = omega arith; numbers = omega arith }
  counts_read place token marks = record { classes = omega arith; numbers = omega arith }

  -- ---- reading on

  pub read_then : (place next last : OrderPlace) (text rest end : List ℕ) (marks after final : Marks) → IsReadOn m way place text marks next rest after → IsReadOn m way next rest after last end final → IsReadOn m way place text marks last end final
  read_then place next last text rest end marks after final first second = record {
    same = second.same ∙ first.same;
    shorter = omega (arith, first.shorter, second.shorter);
    classes = omega (arith, first.classes, second.classes);
    numbers = omega (arith, first.numbers, second.numbers);
  }

  pub token_read : (place next : OrderPlace) (read : Token) (text rest : List ℕ) (marks after : Marks) → m ≤ most_candidates → IsFirstToken text read rest → next_place place read ≡ Some next → after ≡ with_read m way place read marks → IsReadOn m way place text marks next rest after
  token_read place next read text rest marks after h first to is =
      let more = counts_read place read marks in record {
        same = ap (λ (x : Marks). marks_at m way next rest x) is ∙ marks_more place next read text rest marks h first to;
        shorter = omega (arith, first.3);
        classes = omega (arith, more.classes, ap (λ (x : Marks). x.classes) is, first.3);
        numbers = omega (arith, more.numbers, ap (λ (x : Marks). x.before + x.numbers) is, first.3);
      }

  pub listed_read : (place next : OrderPlace) (n : ℕ) (text rest : List ℕ) (marks after : Marks) → m ≤ most_candidates → IsListedNumber text n rest → option_and_then (λ at. next_place at Comma) (next_place place (Number n)) ≡ Some next → after ≡ with_read m way place (Number n) marks → IsReadOn m way place text marks next rest after
  listed_read place next n text rest marks after h listed to is =
      let more = counts_read place (Number n) marks in record {
        same = ap (λ (x : Marks). marks_at m way next rest x) is ∙ listed_more place next n text rest marks h listed to;
        shorter = omega (arith, listed.0.3);
        classes = omega (arith, more.classes, ap (λ (x : Marks). x.classes) is, listed.0.3);
        numbers = omega (arith, more.numbers, ap (λ (x : Marks). x.before + x.numbers) is, listed.0.3);
      }

  -- numbers between braces
  pub member_read : (place : OrderPlace) (n : ℕ) (text rest : List ℕ) (marks after : Marks) → m ≤ most_candidates → next_place place (Number 0) ≡ Some Listed → IsListedNumber text n rest → after ≡ with_number m way marks n → IsReadOn m way place text marks Inner rest after
  member_read Opened n text rest marks after h inside listed is = listed_read Opened Inner n text rest marks after h listed refl is
  member_read Inner n text rest marks after h inside listed is = listed_read Inner Inner n text rest marks after h listed refl is
  member_read place n text rest marks after h inside listed is = absurd (cc)

  last_read : (place : OrderPlace) (n : ℕ) (text rest : List ℕ) (marks after : Marks) → m ≤ most_candidates → next_place place (Number n) ≡ Some Listed → with_read m way place (Number n) marks ≡ with_number m way marks n → IsLastNumber text n rest → after ≡ with_end (with_number m way marks n) → IsReadOn m way place text marks Between rest after
  last_read place n text rest marks after h to same last is =
      let listed = with_number m way marks n in
      read_then place Listed Between text (125 ∷ rest) rest marks listed after
      (token_read place Listed (Number n) text (125 ∷ rest) marks listed h last.0 to (sym same))
      (token_read Listed Between Close (125 ∷ rest) rest listed after h last.1 refl is)

  pub last_member_read : (place : OrderPlace) (n : ℕ) (text rest : List ℕ) (marks after : Marks) → m ≤ most_candidates → next_place place (Number 0) ≡ Some Listed → IsLastNumber text n rest → after ≡ with_end (with_number m way marks n) → IsReadOn m way place text marks Between rest after
  last_member_read Opened n text rest marks after h inside last is = last_read Opened n text rest marks after h refl refl last is
  last_member_read Inner n text rest marks after h inside last is = last_read Inner n text rest marks after h refl refl last is
  last_member_read place n text rest marks after h inside last is = absurd (cc)

  pub braces_read : (place : OrderPlace) (text inside rest : List ℕ) (marks after : Marks) → m ≤ most_candidates → text ≡ 123 ∷ inside → IsReadOn m way Opened inside marks place rest after → IsReadOn m way Class text marks place rest after
  braces_read place text inside rest marks after h brace read =
      read_then Class Opened place text inside rest marks marks after
      (token_read Class Opened Open text inside marks marks h (open_first text inside brace) refl refl) read

  -- the same order at another place
  pub passed_read : (place next : OrderPlace) (text rest : List ℕ) (marks : Marks) → order_at next (tokens_of rest) ≡ order_at place (tokens_of text) → length rest ≤ length text → IsReadOn m way place text marks next rest marks
  passed_read place next text rest marks same shorter = record {
    same = ap (λ (o : Option (List (List ℕ))). marked marks o) same;
    shorter = shorter;
    classes = omega (arith, shorter);
    numbers = omega (arith, shorter);
  }

  -- a number with which nothing is wrong
  pub new_number : (marks next : Marks) (taken : Bool) (n : ℕ) → is_some (wrong_with m marks n) ≡ false → taken ≡ takes way marks.classes marks.before → next ≡ with_new marks taken n → next ≡ with_number m way marks n
  new_number marks next taken n fine is to = to ∙ ap (λ (b : Bool). with_new marks b n) is ∙ sym (rw (none_of (wrong_with m marks n) fine) refl)
