-- A ballot line that is written is read.
use Rattle.std.proofs.Common.{◌≡◌, ℕ, ◌⊎◌, List, [], ◌∷◌, ◌++◌, Option, Some, None, refl, sym, ap, ◌∙◌, append_assoc, inl, inr}
use Rattle.std.specs.Option.{option_map}
use Rattle.std.proofs.lemmas.List.{append-nil}
use Rattle.preflib_text.specs.Lines.{onto_first}
use Rattle.preflib_text.specs.Ballot.{IsBlanks, IsNumber, IsJoined, IsClass, IsOrder, IsBallotLine}
use Rattle.preflib_text.specs.Steps.Tokens.{tokens_after, tokens_of, order_at, ballot_of, cast_of}
use Rattle.preflib_text.specs.declared.ballot.Token.{Token}
use Rattle.preflib_text.specs.declared.ballot.Token.TheVariants.{Number, Colon, Comma, Open, Close, Other}
use Rattle.preflib_text.specs.declared.ballot.OrderPlace.TheVariants.{Order, Class, Between, Opened, Inner}
use Rattle.preflib_text.proofs.BallotTexts.{tokens-mark, tokens-padded, tokens-IsNumber, tokens-IsBlanks}

-- two texts with a comma between them
tokens-comma : (bytes front rest : List ℕ) → bytes ≡ front ++ 44 ∷ rest → tokens_of bytes ≡ tokens_of front ++ Comma ∷ tokens_of rest
tokens-comma bytes front rest e = ap tokens_of e ∙ tokens-mark None front 44 rest (refl, refl)

push_end : (n : ℕ) (o : Option (List (List ℕ))) → option_map (onto_first n) (option_map (λ cs. [] ∷ cs) o) ≡ option_map (λ cs. (n ∷ []) ∷ cs) o
push_end n None = refl
push_end n (Some cs) = refl

push_more : (n : ℕ) (ns : List ℕ) (o : Option (List (List ℕ))) → option_map (onto_first n) (option_map (λ cs. cs) (option_map (λ cs. ns ∷ cs) o)) ≡ option_map (λ cs. (n ∷ ns) ∷ cs) o
push_more n ns None = refl
push_more n ns (Some cs) = refl

same_map : (o : Option (List (List ℕ))) → option_map (λ cs. cs) o ≡ o
same_map None = refl
same_map (Some cs) = refl

-- ---- numbers between braces

numbers_first : (inside : List ℕ) (n : ℕ) (ns : List ℕ) → IsJoined IsNumber inside (n ∷ ns) → (tokens : List Token) × (tokens_of inside ≡ Number n ∷ tokens)
numbers_first inside n [] j = ([], tokens-IsNumber inside n j)
numbers_first inside n (k ∷ ns) (front, rest, e, first, others) =
    (Comma ∷ tokens_of rest, tokens-comma inside front rest e ∙ ap (λ (ts : List Token). ts ++ Comma ∷ tokens_of rest) (tokens-IsNumber front n first))

numbers_read : (inside ns : List ℕ) (tokens : List Token) → IsJoined IsNumber inside ns → order_at Inner (tokens_of inside ++ Close ∷ tokens) ≡ option_map (λ cs. ns ∷ cs) (order_at Between tokens)
unfolding order_at
numbers_read inside [] tokens j = absurd j
numbers_read inside (n ∷ []) tokens j =
    ap (λ (ts : List Token). order_at Inner (ts ++ Close ∷ tokens)) (tokens-IsNumber inside n j) ∙ push_end n (order_at Between tokens)
numbers_read inside (n ∷ k ∷ ns) tokens (front, rest, e, first, others) =
    let whole : tokens_of inside ≡ Number n ∷ Comma ∷ tokens_of rest = tokens-comma inside front rest e ∙ ap (λ (ts : List Token). ts ++ Comma ∷ tokens_of rest) (tokens-IsNumber front n first) in
    ap (λ (ts : List Token). order_at Inner (ts ++ Close ∷ tokens)) whole
    ∙ ap (λ (o : Option (List (List ℕ))). option_map (onto_first n) (option_map (λ cs. cs) o)) (numbers_read rest (k ∷ ns) tokens others)
    ∙ push_more n (k ∷ ns) (order_at Between tokens)

braced_read : (inside ns : List ℕ) (tokens : List Token) → ((ns ≡ []) × IsBlanks inside) ⊎ IsJoined IsNumber inside ns → order_at Opened (tokens_of inside ++ Close ∷ tokens) ≡ option_map (λ cs. ns ∷ cs) (order_at Between tokens)
unfolding order_at
braced_read inside ns tokens (inl (none, blanks)) =
    ap (λ (ts : List Token). order_at Opened (ts ++ Close ∷ tokens)) (tokens-IsBlanks inside blanks) ∙ ap (λ (ms : List ℕ). option_map (λ cs. ms ∷ cs) (order_at Between tokens)) (sym none)
braced_read inside [] tokens (inr j) = absurd j
braced_read inside (n ∷ ns) tokens (inr j) =
    let f = numbers_first inside n ns j in
    ap (λ (ts : List Token). order_at Opened (ts ++ Close ∷ tokens)) f.1
    ∙ ap (λ (ts : List Token). order_at Inner (ts ++ Close ∷ tokens)) (sym f.1)
    ∙ numbers_read inside (n ∷ ns) tokens j

-- ---- classes

braced_tokens : (text inside : List ℕ) → text ≡ 123 ∷ inside ++ 125 ∷ [] → tokens_of text ≡ Open ∷ (tokens_of inside ++ Close ∷ [])
unfolding tokens_after
braced_tokens text inside e = ap tokens_of e ∙ tokens-mark None (123 ∷ inside) 125 [] (refl, refl)

class_read : (bytes numbers : List ℕ) (tokens : List Token) → IsClass bytes numbers → order_at Class (tokens_of bytes ++ tokens) ≡ option_map (λ cs. numbers ∷ cs) (order_at Between tokens)
unfolding order_at
class_read bytes numbers tokens (inl (n, one, number)) =
    ap (λ (ts : List Token). order_at Class (ts ++ tokens)) (tokens-IsNumber bytes n number) ∙ ap (λ (ms : List ℕ). option_map (λ cs. ms ∷ cs) (order_at Between tokens)) (sym one)
class_read bytes numbers tokens (inr (before, text, behind, e, b, braced, a)) =
    let inside = braced.0 in
    let whole : tokens_of bytes ≡ Open ∷ (tokens_of inside ++ Close ∷ []) = ap tokens_of e ∙ tokens-padded before text behind b a ∙ braced_tokens text inside braced.1 in
    ap (λ (ts : List Token). order_at Class (ts ++ tokens)) whole
    ∙ ap (λ (ts : List Token). option_map (λ cs. cs) (order_at Opened ts)) (append_assoc (tokens_of inside) (Close ∷ []) tokens)
    ∙ same_map (order_at Opened (tokens_of inside ++ Close ∷ tokens))
    ∙ braced_read inside numbers tokens braced.2

classes_read : (bytes : List ℕ) (classes : List (List ℕ)) → IsJoined IsClass bytes classes → order_at Class (tokens_of bytes) ≡ Some classes
unfolding order_at
classes_read bytes [] j = absurd j
classes_read bytes (class ∷ []) j =
    ap (order_at Class) (sym (append-nil (tokens_of bytes))) ∙ class_read bytes class [] j
classes_read bytes (class ∷ next ∷ classes) (front, rest, e, first, others) =
    ap (order_at Class) (tokens-comma bytes front rest e)
    ∙ class_read front class (Comma ∷ tokens_of rest) first
    ∙ ap (λ (o : Option (List (List ℕ))). option_map (λ cs. class ∷ cs) (option_map (λ cs. cs) o)) (classes_read rest (next ∷ classes) others)

-- what is read after a comma is read after the colon too
order_from_class : (tokens : List Token) (classes : List (List ℕ)) → order_at Class tokens ≡ Some classes → order_at Order tokens ≡ Some classes
unfolding order_at
order_from_class [] classes e = absurd cc
order_from_class (Number n ∷ tokens) classes e = e
order_from_class (Open ∷ tokens) classes e = e
order_from_class (Colon ∷ tokens) classes e = e
order_from_class (Comma ∷ tokens) classes e = e
order_from_class (Close ∷ tokens) classes e = e
order_from_class (Other ∷ tokens) classes e = e

order_read : (bytes : List ℕ) (classes : List (List ℕ)) → IsOrder bytes classes → order_at Order (tokens_of bytes) ≡ Some classes
unfolding order_at
order_read bytes classes (inl (none, blanks)) =
    ap (order_at Order) (tokens-IsBlanks bytes blanks) ∙ ap (λ (cs : List (List ℕ)). Some cs) (sym none)
order_read bytes classes (inr j) = order_from_class (tokens_of bytes) classes (classes_read bytes classes j)

-- ---- lines

pub line_read : (bytes : List ℕ) (n : ℕ) (cs : List (List ℕ)) → IsBallotLine bytes n cs → ballot_of bytes ≡ Some (record { count = n; classes = cs })
line_read bytes n cs (front, rest, e, number, order) =
    let whole : tokens_of bytes ≡ Number n ∷ Colon ∷ tokens_of rest = ap tokens_of e ∙ tokens-mark None front 58 rest (refl, refl) ∙ ap (λ (ts : List Token). ts ++ Colon ∷ tokens_of rest) (tokens-IsNumber front n number) in
    ap cast_of whole ∙ ap (option_map (λ (classes : List (List ℕ)). record { count = n; classes = classes })) (order_read rest cs order)
