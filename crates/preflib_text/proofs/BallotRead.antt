-- A line that is read is a ballot line.
use Rattle.std.proofs.Common.{◌≡◌, ℕ, ◌⊎◌, List, [], ◌∷◌, ◌++◌, Option, Some, None, refl, sym, ap, subst, ◌∙◌, append_assoc, inl, inr}
use Rattle.std.specs.Option.{option_map}
use Rattle.preflib_text.specs.Lines.{onto_first}
use Rattle.preflib_text.specs.Ballot.{IsBlanks, IsDigits, IsNumber, IsJoined, IsClass, IsOrder, IsBallotLine}
use Rattle.preflib_text.specs.Reading.{Cast}
use Rattle.preflib_text.specs.Steps.Tokens.{tokens_of, order_at, ballot_of, cast_of}
use Rattle.preflib_text.specs.declared.ballot.Token.{Token}
use Rattle.preflib_text.specs.declared.ballot.Token.TheVariants.{Number, Colon, Comma, Open, Close}
use Rattle.preflib_text.specs.declared.ballot.OrderPlace.{OrderPlace}
use Rattle.preflib_text.specs.declared.ballot.OrderPlace.TheVariants.{Order, Class, Between, Opened, Inner, Listed}
use Rattle.preflib_text.proofs.BallotTexts.{FirstText, first_text, IsBlanks-from}

-- ---- joined items

-- what stands after an item: blanks, or blanks, a comma and more items
abbrev IsTail : {X : Type 0} → (List ℕ → X → Type 0) → List ℕ → List X → Type 0
IsTail IsItem bytes [] = IsBlanks bytes
IsTail IsItem bytes (x ∷ xs) = (before rest : List ℕ) × (bytes ≡ before ++ 44 ∷ rest) × IsBlanks before × IsJoined IsItem rest (x ∷ xs)

-- an item that may have blanks after it, and what stands after it
joined_from : {X : Type 0} (IsItem : List ℕ → X → Type 0) (front rest : List ℕ) (x : X) (xs : List X) → ((behind : List ℕ) → IsBlanks behind → IsItem (front ++ behind) x) → IsTail IsItem rest xs → IsJoined IsItem (front ++ rest) (x ∷ xs)
joined_from IsItem front rest x [] item tail = item rest tail
joined_from IsItem front rest x (y ∷ ys) item (before, others, e, blanks, joined) =
    (front ++ before, others, ap (λ (t : List ℕ). front ++ t) e ∙ sym (append_assoc front before (44 ∷ others)), item before blanks, joined)

tail_from : {X : Type 0} (IsItem : List ℕ → X → Type 0) (before rest : List ℕ) (xs : List X) → IsBlanks before → IsJoined IsItem rest xs → IsTail IsItem (before ++ 44 ∷ rest) xs
tail_from IsItem before rest [] blanks joined = absurd joined
tail_from IsItem before rest (x ∷ xs) blanks joined = (before, rest, refl, blanks, joined)

-- a number with blanks before it
number_item : (before text : List ℕ) (n : ℕ) → IsBlanks before → IsDigits text n → (behind : List ℕ) → IsBlanks behind → IsNumber ((before ++ text) ++ behind) n
number_item before text n blanks digits behind b = (before, text, behind, refl, blanks, digits, b)

-- ---- what stands from a place on

-- numbers up to a closing brace, and what stands after it
abbrev IsInside : (List ℕ → List ℕ → Type 0) → List ℕ → List (List ℕ) → Type 0
IsInside AreNumbers bytes [] = ⊥
IsInside AreNumbers bytes (ns ∷ cs) = (inside rest : List ℕ) × (bytes ≡ inside ++ 125 ∷ rest) × AreNumbers inside ns × IsTail IsClass rest cs

abbrev AreBraced : List ℕ → List ℕ → Type 0
AreBraced inside ns = ((ns ≡ []) × IsBlanks inside) ⊎ IsJoined IsNumber inside ns

abbrev IsRest : OrderPlace → List ℕ → List (List ℕ) → Type 0
IsRest Order bytes classes = IsOrder bytes classes
IsRest Class bytes classes = IsJoined IsClass bytes classes
IsRest Between bytes classes = IsTail IsClass bytes classes
IsRest Opened bytes classes = IsInside AreBraced bytes classes
IsRest Inner bytes classes = IsInside (IsJoined IsNumber) bytes classes
IsRest Listed bytes classes = IsInside (IsTail IsNumber) bytes classes

abbrev pub some : {A : Type 0} → A → Option A
some x = Some x

pub some_is : {A : Type 0} (x y : A) → some x ≡ some y → x ≡ y
some_is x y e = cc

pub map_some : {A B : Type 0} (f : A → B) (o : Option A) (y : B) → option_map f o ≡ Some y → (x : A) × (o ≡ Some x) × (f x ≡ y)
map_some f None y e = absurd cc
map_some f (Some x) y e = (x, refl, some_is (f x) y e)

-- ---- one token more

from_number : (bytes : List ℕ) (n : ℕ) (us : List Token) (x classes : List (List ℕ)) → (f : FirstText bytes (Number n) us) → (n ∷ []) ∷ x ≡ classes → IsTail IsClass f.rest x → IsJoined IsClass bytes classes
from_number bytes n us x classes f e tail =
    let class = λ (behind : List ℕ) (b : IsBlanks behind). inl (n, refl, number_item f.before f.text n f.blanks f.is behind b) in
    let joined : IsJoined IsClass ((f.before ++ f.text) ++ f.rest) ((n ∷ []) ∷ x) = joined_from IsClass (f.before ++ f.text) f.rest (n ∷ []) x class tail in
    let is : bytes ≡ (f.before ++ f.text) ++ f.rest = f.whole ∙ sym (append_assoc f.before f.text f.rest) in
    subst (λ (cs : List (List ℕ)). IsJoined IsClass bytes cs) e (subst (λ (t : List ℕ). IsJoined IsClass t ((n ∷ []) ∷ x)) (sym is) joined)

-- the text of a mark, and what stands after it
mark_whole : (bytes before text rest : List ℕ) (b : ℕ) → bytes ≡ before ++ (text ++ rest) → text ≡ b ∷ [] → bytes ≡ before ++ b ∷ rest
mark_whole bytes before text rest b e is = e ∙ ap (λ (t : List ℕ). before ++ (t ++ rest)) is

from_open : (bytes : List ℕ) (us : List Token) (classes : List (List ℕ)) → (f : FirstText bytes Open us) → IsInside AreBraced f.rest classes → IsJoined IsClass bytes classes
from_open bytes us [] f inside = absurd inside
from_open bytes us (ns ∷ cs) f (inside, rest, e, numbers, tail) =
    let braced = 123 ∷ inside ++ 125 ∷ [] in
    let class : (behind : List ℕ) → IsBlanks behind → IsClass ((f.before ++ braced) ++ behind) ns = λ behind b. inr (f.before, braced, behind, refl, f.blanks, (inside, refl, numbers), b) in
    let joined : IsJoined IsClass ((f.before ++ braced) ++ rest) (ns ∷ cs) = joined_from IsClass (f.before ++ braced) rest ns cs class tail in
    let is : bytes ≡ (f.before ++ braced) ++ rest = mark_whole bytes f.before f.text f.rest 123 f.whole f.is ∙ ap (λ (t : List ℕ). f.before ++ 123 ∷ t) (e ∙ sym (append_assoc inside (125 ∷ []) rest)) ∙ sym (append_assoc f.before braced rest) in
    subst (λ (t : List ℕ). IsJoined IsClass t (ns ∷ cs)) (sym is) joined

from_comma : {X : Type 0} (IsItem : List ℕ → X → Type 0) (bytes : List ℕ) (us : List Token) (xs : List X) → (f : FirstText bytes Comma us) → IsJoined IsItem f.rest xs → IsTail IsItem bytes xs
from_comma IsItem bytes us xs f joined =
    subst (λ (t : List ℕ). IsTail IsItem t xs) (sym (mark_whole bytes f.before f.text f.rest 44 f.whole f.is)) (tail_from IsItem f.before f.rest xs f.blanks joined)

-- a number between braces
from_member : (bytes : List ℕ) (n : ℕ) (us : List Token) (x classes : List (List ℕ)) → (f : FirstText bytes (Number n) us) → onto_first n x ≡ classes → IsInside (IsTail IsNumber) f.rest x → IsInside (IsJoined IsNumber) bytes classes
from_member bytes n us [] classes f e inside = absurd inside
from_member bytes n us (ns ∷ cs) classes f e (inside, rest, whole, tail, others) =
    let front = f.before ++ f.text in
    let joined : IsJoined IsNumber (front ++ inside) (n ∷ ns) = joined_from IsNumber front inside n ns (number_item f.before f.text n f.blanks f.is) tail in
    let is : bytes ≡ (front ++ inside) ++ 125 ∷ rest = f.whole ∙ ap (λ (t : List ℕ). f.before ++ (f.text ++ t)) whole ∙ sym (append_assoc f.before f.text (inside ++ 125 ∷ rest)) ∙ sym (append_assoc front inside (125 ∷ rest)) in
    subst (λ (cs : List (List ℕ)). IsInside (IsJoined IsNumber) bytes cs) e (front ++ inside, rest, is, joined, others)

any_braced : (bytes : List ℕ) (classes : List (List ℕ)) → IsInside (IsJoined IsNumber) bytes classes → IsInside AreBraced bytes classes
any_braced bytes [] i = absurd i
any_braced bytes (ns ∷ cs) (inside, rest, e, joined, tail) = (inside, rest, e, inr joined, tail)

from_close : (AreNumbers : List ℕ → List ℕ → Type 0) (bytes : List ℕ) (us : List Token) (x classes : List (List ℕ)) → ((inside : List ℕ) → IsBlanks inside → AreNumbers inside []) → (f : FirstText bytes Close us) → [] ∷ x ≡ classes → IsTail IsClass f.rest x → IsInside AreNumbers bytes classes
from_close AreNumbers bytes us x classes none f e tail =
    subst (λ (cs : List (List ℕ)). IsInside AreNumbers bytes cs) e (f.before, f.rest, mark_whole bytes f.before f.text f.rest 125 f.whole f.is, none f.before f.blanks, tail)

-- a comma between braces
from_inner : (bytes : List ℕ) (us : List Token) (classes : List (List ℕ)) → (f : FirstText bytes Comma us) → IsInside (IsJoined IsNumber) f.rest classes → IsInside (IsTail IsNumber) bytes classes
from_inner bytes us [] f i = absurd i
from_inner bytes us (ns ∷ cs) f (inside, rest, e, joined, tail) =
    let is : bytes ≡ (f.before ++ 44 ∷ inside) ++ 125 ∷ rest = mark_whole bytes f.before f.text f.rest 44 f.whole f.is ∙ ap (λ (t : List ℕ). f.before ++ 44 ∷ t) e ∙ sym (append_assoc f.before (44 ∷ inside) (125 ∷ rest)) in
    (f.before ++ 44 ∷ inside, rest, is, tail_from IsNumber f.before inside ns f.blanks joined, tail)

-- ---- orders

rest_is : (place : OrderPlace) (tokens : List Token) (bytes : List ℕ) (classes : List (List ℕ)) → tokens_of bytes ≡ tokens → order_at place tokens ≡ Some classes → IsRest place bytes classes
unfolding order_at
rest_is Order [] bytes classes t e = inl (sym (some_is [] classes e), IsBlanks-from bytes t)
rest_is Order (Number n ∷ us) bytes classes t e =
    let f = first_text bytes (Number n) us t in
    let m = map_some (λ cs. (n ∷ []) ∷ cs) (order_at Between us) classes e in
    inr (from_number bytes n us m.0 classes f m.2 (rest_is Between us f.rest m.0 f.others m.1))
rest_is Order (Open ∷ us) bytes classes t e =
    let f = first_text bytes Open us t in
    let m = map_some (λ cs. cs) (order_at Opened us) classes e in
    inr (subst (λ (cs : List (List ℕ)). IsJoined IsClass bytes cs) m.2 (from_open bytes us m.0 f (rest_is Opened us f.rest m.0 f.others m.1)))
rest_is Class (Number n ∷ us) bytes classes t e =
    let f = first_text bytes (Number n) us t in
    let m = map_some (λ cs. (n ∷ []) ∷ cs) (order_at Between us) classes e in
    from_number bytes n us m.0 classes f m.2 (rest_is Between us f.rest m.0 f.others m.1)
rest_is Class (Open ∷ us) bytes classes t e =
    let f = first_text bytes Open us t in
    let m = map_some (λ cs. cs) (order_at Opened us) classes e in
    subst (λ (cs : List (List ℕ)). IsJoined IsClass bytes cs) m.2 (from_open bytes us m.0 f (rest_is Opened us f.rest m.0 f.others m.1))
rest_is Between [] bytes classes t e =
    subst (λ (cs : List (List ℕ)). IsTail IsClass bytes cs) (some_is [] classes e) (IsBlanks-from bytes t)
rest_is Between (Comma ∷ us) bytes classes t e =
    let f = first_text bytes Comma us t in
    let m = map_some (λ cs. cs) (order_at Class us) classes e in
    subst (λ (cs : List (List ℕ)). IsTail IsClass bytes cs) m.2 (from_comma IsClass bytes us m.0 f (rest_is Class us f.rest m.0 f.others m.1))
rest_is Opened (Number n ∷ us) bytes classes t e =
    let f = first_text bytes (Number n) us t in
    let m = map_some (onto_first n) (order_at Listed us) classes e in
    any_braced bytes classes (from_member bytes n us m.0 classes f m.2 (rest_is Listed us f.rest m.0 f.others m.1))
rest_is Opened (Close ∷ us) bytes classes t e =
    let f = first_text bytes Close us t in
    let m = map_some (λ cs. [] ∷ cs) (order_at Between us) classes e in
    from_close AreBraced bytes us m.0 classes (λ inside b. inl (refl, b)) f m.2 (rest_is Between us f.rest m.0 f.others m.1)
rest_is Inner (Number n ∷ us) bytes classes t e =
    let f = first_text bytes (Number n) us t in
    let m = map_some (onto_first n) (order_at Listed us) classes e in
    from_member bytes n us m.0 classes f m.2 (rest_is Listed us f.rest m.0 f.others m.1)
rest_is Listed (Comma ∷ us) bytes classes t e =
    let f = first_text bytes Comma us t in
    let m = map_some (λ cs. cs) (order_at Inner us) classes e in
    subst (λ (cs : List (List ℕ)). IsInside (IsTail IsNumber) bytes cs) m.2 (from_inner bytes us m.0 f (rest_is Inner us f.rest m.0 f.others m.1))
rest_is Listed (Close ∷ us) bytes classes t e =
    let f = first_text bytes Close us t in
    let m = map_some (λ cs. [] ∷ cs) (order_at Between us) classes e in
    from_close (IsTail IsNumber) bytes us m.0 classes (λ inside b. b) f m.2 (rest_is Between us f.rest m.0 f.others m.1)
rest_is place tokens bytes classes t e = absurd cc

-- ---- lines

pub record WasRead (tokens : List Token) (n : ℕ) (cs : List (List ℕ)) : Type 0 where
  pub others : List Token
  pub whole : tokens ≡ Number n ∷ Colon ∷ others
  pub order : order_at Order others ≡ Some cs

was_read : (tokens : List Token) (n : ℕ) (cs : List (List ℕ)) → cast_of tokens ≡ Some (record { count = n; classes = cs }) → WasRead tokens n cs
was_read (Number k ∷ Colon ∷ others) n cs e =
    let m = map_some (λ (classes : List (List ℕ)). record { count = k; classes = classes }) (order_at Order others) (record { count = n; classes = cs }) e in
    let count : k ≡ n = ap (λ (cast : Cast). cast.count) m.2 in
    let classes : m.0 ≡ cs = ap (λ (cast : Cast). cast.classes) m.2 in
    record { others = others; whole = ap (λ (j : ℕ). Number j ∷ Colon ∷ others) count; order = m.1 ∙ ap (λ (c : List (List ℕ)). Some c) classes }
was_read tokens n cs e = absurd cc

pub line_is : (bytes : List ℕ) (n : ℕ) (cs : List (List ℕ)) → ballot_of bytes ≡ Some (record { count = n; classes = cs }) → IsBallotLine bytes n cs
line_is bytes n cs e =
    let w = was_read (tokens_of bytes) n cs e in
    let f = first_text bytes (Number n) (Colon ∷ w.others) w.whole in
    let g = first_text f.rest Colon w.others f.others in
    let order = rest_is Order w.others g.rest cs g.others w.order in
    let front = (f.before ++ f.text) ++ g.before in
    let is : bytes ≡ front ++ 58 ∷ g.rest = f.whole ∙ ap (λ (t : List ℕ). f.before ++ (f.text ++ t)) (mark_whole f.rest g.before g.text g.rest 58 g.whole g.is) ∙ sym (append_assoc f.before f.text (g.before ++ 58 ∷ g.rest)) ∙ sym (append_assoc (f.before ++ f.text) g.before (58 ∷ g.rest)) in
    (front, g.rest, is, number_item f.before f.text n f.blanks f.is g.before g.blanks, order)
