-- What the code reads of the rows that clap found.
use Rattle.std.proofs.Common.{◌≡◌, ◌≢◌, ◌⊎◌, ◌≤◌, ◌<◌, ◌^◌, ◌∙◌, ◌&&◌, ℕ, Bool, true, false, List, [], Bor, Vec, Global, inl, inr, refl, sym, ap, subst, arith, rules, codes}
use Rattle.std.specs.Prelude.{IfSome, IfOk, if◌then◌else◌, option_and_then, Option, Some, None, Result, Ok, Err, IsSome, pos, option_map}
use Rattle.std.specs.Option.{is_some, ok_or, option_map_or, option_transpose}
use Rattle.std.specs.Str.{bytes_eq}
use Rattle.std.specs.Result.{IsErrAnd}
use Rattle.std.specs.Str.Parse.{ParsesUnsigned}
use Rattle.std.specs.Vec.{vec_items}
use Rattle.clap.specs.Words.{Row, Text, IsSignedIn, first_of, matched_of, raw_values, rows_of, without_minus}
use Rattle.clap.specs.Matches.{ReadsOne}
use Rattle.clap.specs.declared.parser.matches.Found.{Found}
use Rattle.clap.proofs.CallerReads.{signed_reads}
use Rattle.clap.proofs.WalkLemmas.{raw_values-rows}
use Rattle.group_check.specs.declared.property.Property.{Property}
use Rattle.preflib_text.specs.declared.pick.Pick.{Pick}
use Rattle.preflib_text.specs.declared.pick.Way.{Way}
use Rattle.preflib_text.specs.Names.{kind_named}
use Rattle.request_words.specs.Endings.{kind_in_path}
use Rattle.seat_share.specs.Limits.{most_seats}
use Rattle.seat_share.specs.declared.method.Method.{Method}
use Rattle.request_words.specs.NumberList.{list_of}
use Rattle.request_words.specs.Limits.{most_limit}
use Rattle.request_words.specs.Request.{Request, Task, InRange, IsPage, Page, checking, of_ballots, sharing_by}
use Rattle.request_words.specs.declared.request.Rule.{Rule}
use Rattle.request_words.specs.declared.words.LineFault.{LineFault}
use Rattle.request_words.specs.declared.words.LineFault.TheVariants.{BadList, Memory, VotesAndInput}
use Rattle.request_words.specs.declared.words.ListOption.{ListOption}
use Rattle.request_words.specs.declared.words.ListOption.TheVariants.{Committee, Votes, After}
use Rattle.request_words.specs.Words.{asking, check_in, elect_in, elect_over_page}
use Rattle.request_words.specs.Steps.Values.{Gives, GivesAsked, HasCheckValues, HasElectValues, HasShareValues, IsCount, IsFlag}
use Rattle.group_check.specs.Names.{property_named}
use Rattle.seat_share.specs.Names.{method_named}
use Rattle.request_words.specs.Names.{rule_named}
use Rattle.request_words.specs.Words.{has_input, is_given, list_in, listed, number_at, number_of, page_in, result_and_then, share_in, share_over_votes, wants_names, way_in, without_both}
use Rattle.request_words.proofs.NumberListLemmas.{list_has_number}

pub text_there : (o : Option (Bor Text)) (t : Text) → option_map (λ s. s.now) o ≡ Some t → IsSome o
text_there None t e = cc
text_there (Some s) t e = search rules

pub text_is : (o : Option (Bor Text)) (s : Bor Text) (t : Text) → o ≡ Some s → option_map (λ s. s.now) o ≡ Some t → s.now ≡ t
text_is o s t is e =
    let same : Some s.now ≡ Some t = ap (option_map (λ s. s.now)) (sym is) ∙ e in
    cc

-- an option with a value has one for the code
pub some_there : (o : Option (Bor Text)) (p : Option Text) → option_map (λ s. s.now) o ≡ p → IsSome p → IsSome o
some_there None p e some = subst (λ q. IsSome q) (sym e) some
some_there (Some s) p e some = search rules

-- ---- numbers

-- a number that passed its parser is one from 1 to the most, the value of its digits
pub number_read : (k most : ℕ) (E : Type 0) (G : List ℕ → Result ℕ E → Type 0) (t : Text) (r : Option ℕ) → ReadsOne G (without_minus t) r
    → ((u : List ℕ) (x : Result ℕ E) → G u x → ParsesUnsigned k 10 u x) → most < 2 ^ k → IsSignedIn (pos 1) (pos most) t
    → (n : ℕ) × (r ≡ Some n) × (1 ≤ n) × (n ≤ most) × (n ≡ number_of (without_minus t))
number_read k most E G t r read only small passed =
    let got = signed_reads E G k 1 most t r read only small passed in
    let as_ok : G (without_minus t) (Ok got.0) = subst (ReadsOne G (without_minus t)) got.1 read in
    (got.0, got.1, got.2, got.3, (only (without_minus t) (Ok got.0) as_ok).1)

-- the same of the number that the code has
pub number_facts : (k most : ℕ) (E : Type 0) (G : List ℕ → Result ℕ E → Type 0) (t : Text) (r : Option ℕ) (m : ℕ) → ReadsOne G (without_minus t) r
    → ((u : List ℕ) (x : Result ℕ E) → G u x → ParsesUnsigned k 10 u x) → most < 2 ^ k → IsSignedIn (pos 1) (pos most) t → r ≡ Some m
    → (1 ≤ m) × (m ≤ most) × (m ≡ number_of (without_minus t))
number_facts k most E G t r m read only small passed is =
    let got = number_read k most E G t r read only small passed in
    let same : Some m ≡ Some got.0 = sym is ∙ got.1 in
    let m_is : m ≡ got.0 = cc in
    (rw m_is got.2, rw m_is got.3, m_is ∙ got.4)

-- the number of an option that is not given, and of one that is
pub count_read : (E : Type 0) (G : List ℕ → Result ℕ E → Type 0) (o : Option Text) (r : Option ℕ) → (o ≡ None → r ≡ None) → ((t : Text) → o ≡ Some t → ReadsOne G t r)
    → ((u : List ℕ) (x : Result ℕ E) → G u x → ParsesUnsigned 32 10 u x) → IsCount o
    → (r ≡ option_map number_of o) × IfSome r (λ n. 1 ≤ n) × IfSome r (λ n. n ≤ most_limit)
count_read E G None r none value only is = (
  none refl,
  subst (λ x. IfSome x (λ n. 1 ≤ n)) (sym (none refl)) tt,
  subst (λ x. IfSome x (λ n. n ≤ most_limit)) (sym (none refl)) tt,
)
count_read E G (Some digits) r none value only (t, most, same, small, passed) =
    let got = number_read 32 most E G t r (subst (λ d. ReadsOne G d r) same (value digits refl)) only small passed in
    let fits : got.0 ≤ most_limit = omega (arith, got.3, small) in (
      got.1 ∙ ap Some (got.4 ∙ ap number_of (sym same)),
      subst (λ x. IfSome x (λ n. 1 ≤ n)) (sym got.1) got.2,
      subst (λ x. IfSome x (λ n. n ≤ most_limit)) (sym got.1) fits,
    )

-- ---- lists

-- the code's list, or its fault
pub list_given : {V : Type 0} (view : V → List ℕ) (option : ListOption) (text : Text) (o : Option V) (r : Result V LineFault) → option_map view o ≡ list_of text
    → r ≡ ok_or o (BadList option) → Gives view (listed option text) r
list_given view option text None r read is =
    subst (Gives view (listed option text)) (sym is) (inr (ap (λ l. ok_or l (BadList option)) (sym read)))
list_given view option text (Some v) r read is =
    subst (Gives view (listed option text)) (sym is) (ap (λ l. ok_or l (BadList option)) (sym read))

-- the code's list has a number
pub list_is_some : {V : Type 0} (view : V → List ℕ) (option : ListOption) (text : Text) (r : Result V LineFault) → Gives view (listed option text) r
    → IfOk r (λ v. view v ≢ [])
list_is_some view option text (Err e) gives = tt
list_is_some view option text (Ok v) gives = go (list_of text) refl gives
  where
    go : (l : Option (List ℕ)) → list_of text ≡ l → ok_or l (BadList option) ≡ Ok (view v) → view v ≢ []
    go None is e = λ none. cc
    go (Some ns) is e =
        let same : ns ≡ view v = cc in
        list_has_number text (view v) (is ∙ ap Some same)

-- ---- what is given

some_of_map : {X Y : Type 0} (f : X → Y) (o : Option X) → is_some (option_map f o) ≡ is_some o
some_of_map f None = refl
some_of_map f (Some x) = refl

-- clap's test of an id is that of the rows
pub given_rows : (f : Found) (id : Text) → is_some (matched_of f id) ≡ is_given (rows_of f) id
given_rows f id = sym (some_of_map raw_values (matched_of f id)) ∙ ap is_some (raw_values-rows f id)

-- ---- requests

-- the outcome of a step is that of the command
pub gives_asked : (said : Option (Result Request LineFault)) (step result : Result Request LineFault) → said ≡ Some step → Gives (λ r. r) step result → GivesAsked said result
gives_asked said step (Ok r) is gives = is ∙ ap Some gives
gives_asked said step (Err e) is (inl memory) = inl memory
gives_asked said step (Err e) is (inr fault) = inr (is ∙ ap Some fault)

-- the request that the code makes of its values
pub asking_is : (rows : List Row) (task : Task) (way : Way) (pick : Pick) (kind file path : Option Text) (names : Bool) → Some way ≡ way_in rows
    → kind ≡ first_of (codes "kind") rows → file ≡ first_of (codes "file") rows → path ≡ first_of (codes "file") rows
    → pick ≡ record { kind = option_and_then kind_named kind; ending = option_and_then kind_in_path path; way = way } → names ≡ wants_names rows
    → asking rows task ≡ Ok (record { task = task; pick = pick; file = file; names = names })
asking_is rows task way pick kind file path names ways kinds files paths picked wants = rw (← ways, picked, kinds, files, paths, wants) refl

-- the flag that the code reads is that of the rows
pub flag_read : (o : Option Text) (r : Bool) → IsFlag o → (o ≡ None → r ≡ false) → (o ≡ Some (codes "true") → r ≡ true)
    → (o ≡ Some (codes "false") → r ≡ false) → r ≡ option_map_or (bytes_eq (codes "true")) o false
flag_read None r is none on off = none refl
flag_read (Some text) r (inl is) none on off = on (ap Some is) ∙ ap (λ t. option_map_or (bytes_eq (codes "true")) (Some t) false) (sym is)
flag_read (Some text) r (inr is) none on off = off (ap Some is) ∙ ap (λ t. option_map_or (bytes_eq (codes "true")) (Some t) false) (sym is)

-- what `elect` asks for, by its values
pub elect_is : (rows : List Row) (h : HasElectValues rows) (name : Text) (rule : Rule) (m : ℕ) → name ≡ h.0.text → rule_named name ≡ Some rule
    → m ≡ number_of (without_minus h.1.text)
    → elect_in rows ≡ Some (result_and_then (elect_over_page rows rule m) (page_in rows))
elect_is rows h name rule m named is size =
    let known : rule_named h.0.text ≡ Some rule = ap rule_named (sym named) ∙ is in
    rw (h.0.given, h.1.given, known, size) refl

-- what `check` asks for
pub check_is : (rows : List Row) (h : HasCheckValues rows) (name text : Text) (property : Property) → name ≡ h.0.text → property_named name ≡ Some property
    → first_of (codes "committee") rows ≡ Some text
    → check_in rows ≡ Some (result_and_then (λ committee. asking rows (of_ballots (checking property committee))) (listed Committee text))
check_is rows h name text property named is given =
    let known : property_named h.0.text ≡ Some property = ap property_named (sym named) ∙ is in
    rw (h.0.given, given, known) refl

-- what `share` asks for
pub share_is : (rows : List Row) (h : HasShareValues rows) (name : Text) (method : Method) (m : ℕ) → name ≡ h.0.text → method_named name ≡ Some method
    → m ≡ number_of (without_minus h.1.text)
    → share_in rows ≡ Some (result_and_then (without_both rows) (result_and_then (share_over_votes rows method m) (list_in Votes (codes "votes") rows)))
share_is rows h name method m named is seats =
    let known : method_named h.0.text ≡ Some method = ap method_named (sym named) ∙ is in
    rw (h.0.given, h.1.given, known, seats) refl

-- the list of a check, or its fault
pub check_given : (said : Option (Result Request LineFault)) (next : List ℕ → Result Request LineFault) (list : List ℕ) (r : Result (List ℕ) LineFault) (result : Result Request LineFault)
    → said ≡ Some (result_and_then next r) → r ≡ Ok list → Gives (λ x. x) (next list) result → GivesAsked said result
check_given said next list r result is read gives = gives_asked said (next list) result (is ∙ ap (λ x. Some (result_and_then next x)) read) gives

-- a step failed, and with it the command
pub failed : {A : Type 0} (said : Option (Result Request LineFault)) (next : A → Result Request LineFault) (r : Result A LineFault) (f : LineFault)
    → said ≡ Some (result_and_then next r) → (f ≡ Memory) ⊎ (r ≡ Err f) → (f ≡ Memory) ⊎ (said ≡ Some (Err f))
failed said next r f is (inl memory) = inl memory
failed said next r f is (inr err) = inr (is ∙ ap (λ x. Some (result_and_then next x)) err)

-- ---- the list of an option

list_by : (option : ListOption) (name : Text) (rows : List Row) (o : Option Text) (r : Result (Option (List ℕ)) LineFault) → first_of name rows ≡ o
    → option_transpose (option_map (listed option) o) ≡ r → list_in option name rows ≡ r
list_by option name rows o r given is = ap (λ x. option_transpose (option_map (listed option) x)) given ∙ is

pub no_list : (option : ListOption) (name : Text) (rows : List Row) → first_of name rows ≡ None → list_in option name rows ≡ Ok None
no_list option name rows given = list_by option name rows None (Ok None) given refl

pub list_read : (option : ListOption) (name : Text) (rows : List Row) (text : Text) (list : List ℕ) → first_of name rows ≡ Some text
    → listed option text ≡ Ok list → list_in option name rows ≡ Ok (Some list)
list_read option name rows text list given is = list_by option name rows (Some text) (Ok (Some list)) given (ap (λ r. option_transpose (Some r)) is)

pub list_failed : (option : ListOption) (name : Text) (rows : List Row) (text : Text) (f : LineFault) → first_of name rows ≡ Some text
    → (f ≡ Memory) ⊎ (listed option text ≡ Err f) → (f ≡ Memory) ⊎ (list_in option name rows ≡ Err f)
list_failed option name rows text f given (inl memory) = inl memory
list_failed option name rows text f given (inr err) = inr (list_by option name rows (Some text) (Err f) given (ap (λ r. option_transpose (Some r)) err))

-- which answers are asked for, by the start and the limit
pub page_read : (rows : List Row) (after : Option (List ℕ)) (limit : Option ℕ) → list_in After (codes "after") rows ≡ Ok after → limit ≡ number_at (codes "limit") rows
    → page_in rows ≡ Ok (record { after = after; limit = limit })
page_read rows after limit read is = rw (is, read) refl

pub page_failed : (rows : List Row) (f : LineFault) → (f ≡ Memory) ⊎ (list_in After (codes "after") rows ≡ Err f) → (f ≡ Memory) ⊎ (page_in rows ≡ Err f)
page_failed rows f (inl memory) = inl memory
page_failed rows f (inr err) = inr (rw err refl)

-- a fault that is passed on is the same
pub passed_on : {B : Type 0} (P : Result B LineFault → Type 0) (r : Result B LineFault) (f : LineFault) → IsErrAnd r (λ e. e ≡ f) → P (Err f) → P r
passed_on P (Ok x) f is p = absurd is
passed_on P (Err e) f is p = subst (λ x. P (Err x)) (sym is) p

-- ---- the end of a sharing

-- a step was taken
pub then_read : {A B : Type 0} (said : Option (Result Request LineFault)) (last : B → Result Request LineFault) (next : A → Result B LineFault) (r : Result A LineFault)
    (x : A) → said ≡ Some (result_and_then last (result_and_then next r)) → r ≡ Ok x → said ≡ Some (result_and_then last (next x))
then_read said last next r x is read = is ∙ ap (λ s. Some (result_and_then last (result_and_then next s))) read

-- a step failed, and with it the command
pub broken : {A B : Type 0} (said : Option (Result Request LineFault)) (last : B → Result Request LineFault) (next : A → Result B LineFault) (r : Result A LineFault)
    (f : LineFault) → said ≡ Some (result_and_then last (result_and_then next r)) → (f ≡ Memory) ⊎ (r ≡ Err f) → (f ≡ Memory) ⊎ (said ≡ Some (Err f))
broken said last next r f is (inl memory) = inl memory
broken said last next r f is (inr err) = inr (is ∙ ap (λ s. Some (result_and_then last (result_and_then next s))) err)

-- two tests of the code
pub both_true : (a b r s : Bool) → r ≡ a → s ≡ b → r ≡ true → s ≡ true → (a && b) ≡ true
both_true a b r s is_a is_b r_true s_true = rw (sym is_a ∙ r_true, sym is_b ∙ s_true) refl

pub first_false : (a b r : Bool) → r ≡ a → r ≡ false → (a && b) ≡ false
first_false a b r is r_false = rw (sym is ∙ r_false) refl

pub second_false : (a b r : Bool) → r ≡ b → r ≡ false → (a && b) ≡ false
second_false true b r is r_false = sym is ∙ r_false
second_false false b r is r_false = refl

-- lists with numbers, as vectors
pub some_items : (o : Option (Vec ℕ Global)) → IfSome o (λ v. vec_items v ≢ []) → IfSome (option_map vec_items o) (λ list. list ≢ [])
some_items None some = some
some_items (Some v) some = some

-- the numbers of a sharing lie in their ranges
pub sharing_in_range : (votes : Option (List ℕ)) (method : Method) (seats : ℕ) (page : Page) → 1 ≤ seats → seats ≤ most_seats → IfSome votes (λ list. list ≢ [])
    → IsPage page → InRange (sharing_by votes method seats page)
sharing_in_range None method seats page least most some is = (least, most, is)
sharing_in_range (Some votes) method seats page least most some is = (least, most, some, is)

-- a sharing is refused where votes and an input are given, and else as it is
pub shared : (rows : List Row) (said : Option (Result Request LineFault)) (step : Result Request LineFault) (asked : Request) (both : Bool)
    → said ≡ Some (result_and_then (without_both rows) step) → step ≡ Ok asked
    → (is_given rows (codes "votes") && has_input rows) ≡ both → said ≡ Some (if both then Err VotesAndInput else Ok asked)
shared rows said step asked both is ok test = is
    ∙ ap (λ r. Some (result_and_then (without_both rows) r)) ok
    ∙ ap (λ t. Some (if t then Err VotesAndInput else Ok asked)) test
