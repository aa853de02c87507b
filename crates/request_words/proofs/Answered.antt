-- What clap's two outcomes say of the program's words.
use Rattle.std.proofs.Common.{◌≡◌, ◌⊎◌, ◌∙◌, ◌&&◌, ℕ, Bool, Bor, List, [], ◌∷◌, inl, inr, refl, sym, ap, subst, true, false, true≢false}
use Rattle.std.specs.Prelude.{IfErr, IfOk, Option, Some, None, Result, Ok, Err, codes, if◌then◌else◌, option_and_then, option_map}
use Rattle.std.specs.Option.{IsSome, ok_or, option_transpose}
use Rattle.std.specs.Str.{bytes_eq}
use Rattle.std.specs.Result.{result_ok}
use Rattle.clap.specs.Words.{App, HasMatchesOf, IsAmong, Kinds, Row, Text, app_of, fault_of, first_of, found_of, is_simple, is_simple_and_free, rows_of, shape_of, subcommand_name_of, subcommand_of, subcommand_rows_of, takes}
use Rattle.clap.specs.Walk.{is_empty}
use Rattle.clap.specs.declared.builder.command.Command.{Command}
use Rattle.clap.specs.declared.error.kind.ErrorKind.{ErrorKind}
use Rattle.clap.specs.declared.error.kind.ErrorKind.TheVariants as kind
use Rattle.clap.specs.declared.parser.matches.ArgMatches.{ArgMatches}
use Rattle.clap.specs.declared.parser.matches.ArgMatches.{out-ArgMatches}
use Rattle.request_words.specs.declared.words.LineFault.{LineFault}
use Rattle.request_words.specs.declared.words.LineFault.TheVariants.{Help, Usage, BadList, TwoPicks, VotesAndInput, Memory}
use Rattle.request_words.specs.Request.{Request, Task, checking, electing, of_ballots, sharing_by}
use Rattle.request_words.specs.NumberList.{list_of}
use Rattle.request_words.specs.declared.words.ListOption.{ListOption}
use Rattle.request_words.specs.declared.words.ListOption.TheVariants.{Committee, Votes, After}
use Rattle.request_words.specs.Words.{IsAfterClap, RefusesWords, asked_in, asking, check_in, elect_in, has_input, is_given, list_in, listed, page_in}
use Rattle.request_words.specs.Steps.Commands.{IsProgram}
use Rattle.request_words.specs.Steps.Values.{GivesAsked, HasValues, IsFaultOf}
use Rattle.request_words.specs.Words.{number_of, outcome_of, program, request_of, result_and_then, share_in, way_in, without_both}
use Rattle.request_words.proofs.GivenRequest.{program_taken, taken_values}
use Rattle.request_words.proofs.ProgramPlaces.{program_fault, program_free, program_simple, program_sub}
use Rattle.request_words.proofs.Refusals.{some_kind}

some_among : (k : ErrorKind) (kinds : Kinds) → IsAmong k kinds → is_empty kinds ≡ false
some_among k [] among = absurd among
some_among k (x ∷ xs) among = some_kind x xs

-- ---- clap refused the words

not_taken : (words : List Text) (k : ErrorKind) → IsAmong k (fault_of program words) → takes program words ≡ false
not_taken words k among = program_taken words ∙ some_among k (fault_of program words) among

pub answer_is : (words : List Text) (k : ErrorKind) (f : LineFault) → IsFaultOf k f → (k ≡ kind.OutOfMemory) ⊎ IsAmong k (fault_of program words) → RefusesWords words f
answer_is words k (Help text) is (inl memory) = absurd (let bad : kind.DisplayHelp ≡ kind.OutOfMemory = sym is ∙ memory in cc)
answer_is words k (Help text) is (inr among) = (not_taken words k among, subst (λ x. IsAmong x (fault_of program words)) is among)
answer_is words k (Usage text) is (inl memory) = absurd (is.1 memory)
answer_is words k (Usage text) is (inr among) = (not_taken words k among, (k, among, is.0, is.1))
answer_is words k (BadList option) is among = absurd is
answer_is words k TwoPicks is among = absurd is
answer_is words k VotesAndInput is among = absurd is
answer_is words k Memory is among = tt

pub memory_is : (words : List Text) (k : ErrorKind) (f : LineFault) → IsFaultOf k f → (k ≡ kind.OutOfMemory) ⊎ IsAmong k (fault_of program words)
    → takes program words ≡ true → IsAfterClap f
memory_is words k f is (inr among) taken = absurd (true≢false (sym taken ∙ not_taken words k among))
memory_is words k (Help text) is (inl memory) taken = absurd (let bad : kind.DisplayHelp ≡ kind.OutOfMemory = sym is ∙ memory in cc)
memory_is words k (Usage text) is (inl memory) taken = absurd (is.1 memory)
memory_is words k (BadList option) is (inl memory) taken = tt
memory_is words k TwoPicks is (inl memory) taken = tt
memory_is words k VotesAndInput is (inl memory) taken = tt
memory_is words k Memory is (inl memory) taken = tt

-- the kinds are those of the program, wherever the names of its rules lie
pub kinds_are : (cmd : Command) (words : List Text) → IsProgram cmd → fault_of (app_of cmd) words ≡ fault_of program words
kinds_are cmd words (elect, check, share, e, c, s, is) = ap (λ (a : App). fault_of a words) is
    ∙ program_fault (shape_of elect) (shape_of check) (shape_of share) e.0 c.0 s.0 e.1 c.1 s.1 e.4 c.4 s.4 e.2 c.2 s.2 e.3 c.3 s.3 words

pub is_free_program : (cmd : Command) → IsProgram cmd → is_simple_and_free (app_of cmd) ≡ true
is_free_program cmd (elect, check, share, e, c, s, is) = ap is_simple_and_free is
    ∙ program_free (shape_of elect) (shape_of check) (shape_of share) e.0 c.0 s.0 e.1 c.1 s.1 e.4 c.4 s.4 e.2 c.2 s.2 e.3 c.3 s.3

-- ---- clap took the words

-- the rows that the code reads, and the name of their command
abbrev pub sub_in : Bor Text × Bor ArgMatches → Text × List Row
sub_in p = (p.0.now, rows_of (found_of p.1.now))

sub_is : (cmd : Command) (words : List Text) (m : ArgMatches) → IsProgram cmd → HasMatchesOf (app_of cmd) words m → subcommand_rows_of m ≡ subcommand_of program words
sub_is cmd words m (elect, check, share, e, c, s, is) matches =
    (matches (ap is_simple is ∙ program_simple (shape_of elect) (shape_of check) (shape_of share) e.0 c.0 s.0 e.1 c.1 s.1 e.4 c.4 s.4 e.2 c.2 s.2 e.3 c.3 s.3)).1
    ∙ ap (λ (a : App). subcommand_of a words) is
    ∙ program_sub (shape_of elect) (shape_of check) (shape_of share) e.0 c.0 s.0 e.1 c.1 s.1 e.4 c.4 s.4 e.2 c.2 s.2 e.3 c.3 s.3 words

-- the words are taken, and clap found this command with these rows
abbrev pub IsFound : List Text → Text × List Row → Type 0
IsFound words sub = (takes program words ≡ true) × (subcommand_of program words ≡ Some sub)

-- a pair by its parts
paired : (o : Option (Bor Text × Bor ArgMatches)) (p : Bor Text × Bor ArgMatches) (s : Option (Text × List Row)) → option_map (λ q. q.0.now) o ≡ option_map (λ q. q.0) s
    → option_map (λ q. rows_of (found_of q.1.now)) o ≡ option_map (λ q. q.1) s → o ≡ Some p → s ≡ Some (sub_in p)
paired o p None names rows is =
    let bad : Some p.0.now ≡ None = sym (ap (option_map (λ q. q.0.now)) is) ∙ names in
    cc
paired o p (Some (name, found)) names rows is =
    let same_name : Some name ≡ Some p.0.now = sym names ∙ ap (option_map (λ q. q.0.now)) is in
    let same_rows : Some found ≡ Some (rows_of (found_of p.1.now)) = sym rows ∙ ap (option_map (λ q. rows_of (found_of q.1.now))) is in
    let name_is : name ≡ p.0.now = cc in
    let rows_is : found ≡ rows_of (found_of p.1.now) = cc in
    λ i. Some (name_is i, rows_is i)

twice : {X Y Z : Type 0} (f : X → Y) (g : Y → Z) (o : Option X) → option_map (λ x. g (f x)) o ≡ option_map g (option_map f o)
twice f g None = refl
twice f g (Some x) = refl

-- the name of the command that clap found is that of its rows
named : (m : ArgMatches) → subcommand_name_of m ≡ option_map (λ q. q.0) (subcommand_rows_of m)
named m = twice _ (λ q. q.0) (out-ArgMatches m).subcommand

pub found_is : (cmd : Command) (words : List Text) (m : ArgMatches) (o : Option (Bor Text × Bor ArgMatches)) (p : Bor Text × Bor ArgMatches) → IsProgram cmd
    → HasMatchesOf (app_of cmd) words m → fault_of (app_of cmd) words ≡ [] → option_map (λ q. q.0.now) o ≡ subcommand_name_of m
    → option_map (λ q. rows_of (found_of q.1.now)) o ≡ option_map (λ q. q.1) (subcommand_rows_of m)
    → o ≡ Some p → IsFound words (sub_in p)
found_is cmd words m o p is matches none names rows some = (
  program_taken words ∙ ap is_empty (sym (kinds_are cmd words is) ∙ none),
  sym (sub_is cmd words m is matches) ∙ paired o p (subcommand_rows_of m) (names ∙ named m) rows some,
)

some_mapped : {X Y : Type 0} (f : X → Y) (o : Option X) (y : Y) → option_map f o ≡ Some y → IsSome o
some_mapped f None y is = cc
some_mapped f (Some x) y is = refl

-- clap took the words, and so it found a command
pub sub_there : (cmd : Command) (words : List Text) (m : ArgMatches) (o : Option (Bor Text × Bor ArgMatches)) → IsProgram cmd → HasMatchesOf (app_of cmd) words m
    → fault_of (app_of cmd) words ≡ [] → option_map (λ q. rows_of (found_of q.1.now)) o ≡ option_map (λ q. q.1) (subcommand_rows_of m) → IsSome o
sub_there cmd words m o is matches none rows =
    let given = taken_values words (program_taken words ∙ ap is_empty (sym (kinds_are cmd words is) ∙ none)) in
    some_mapped (λ q. rows_of (found_of q.1.now)) o given.0.1
    (rows ∙ ap (option_map (λ (q : Text × List Row). q.1)) (sub_is cmd words m is matches ∙ given.1))

pub values_there : (words : List Text) (sub : Text × List Row) → IsFound words sub → HasValues sub.0 sub.1
values_there words sub found =
    let given = taken_values words found.0 in
    let same : Some given.0 ≡ Some sub = sym given.1 ∙ found.1 in
    let is : given.0 ≡ sub = cc in
    subst (λ (s : Text × List Row). HasValues s.0 s.1) is given.2

-- what the words ask for is what their command asks for
outcome_is : (words : List Text) (sub : Text × List Row) → IsFound words sub → outcome_of words ≡ asked_in sub.0 sub.1
outcome_is words sub found = rw (found.0, found.1) refl

request_is : (words : List Text) (sub : Text × List Row) (r : Request) → IsFound words sub → asked_in sub.0 sub.1 ≡ Some (Ok r) → request_of words ≡ Some r
request_is words sub r found asked = ap (option_and_then result_ok) (outcome_is words sub found ∙ asked)

-- ---- clap took them, and they are refused

-- a step fails with none of clap's faults
abbrev FailsAfterClap : {A : Type 0} → Result A LineFault → Type 0
FailsAfterClap r = IfErr r IsAfterClap

ok_or_own : {A : Type 0} (o : Option A) (f : LineFault) → IsAfterClap f → FailsAfterClap (ok_or o f)
ok_or_own None f own = own
ok_or_own (Some x) f own = tt

then_own : {A B : Type 0} (next : A → Result B LineFault) (r : Result A LineFault) → ((x : A) → FailsAfterClap (next x)) → FailsAfterClap r
    → FailsAfterClap (result_and_then next r)
then_own next (Ok x) later own = later x
then_own next (Err f) later own = own

asking_own : (rows : List Row) (task : Task) → FailsAfterClap (asking rows task)
asking_own rows task = ok_or_own (option_map _ (way_in rows)) TwoPicks tt

list_own : (option : ListOption) (name : Text) (rows : List Row) → FailsAfterClap (list_in option name rows)
list_own option name rows = go (first_of name rows)
  where
    inside : (r : Result (List ℕ) LineFault) → FailsAfterClap r → FailsAfterClap (option_transpose (Some r))
    inside (Ok list) own = tt
    inside (Err f) own = own

    go : (o : Option Text) → FailsAfterClap (option_transpose (option_map (listed option) o))
    go None = tt
    go (Some text) = inside (listed option text) (ok_or_own (list_of text) (BadList option) tt)

page_own : (rows : List Row) → FailsAfterClap (page_in rows)
page_own rows = then_own _ (list_in After (codes "after") rows) (λ after. tt) (list_own After (codes "after") rows)

without_both_own : (rows : List Row) (asked : Request) → FailsAfterClap (without_both rows asked)
without_both_own rows asked = go (is_given rows (codes "votes") && has_input rows)
  where
    go : (t : Bool) → FailsAfterClap {A = Request} (if t then Err VotesAndInput else Ok asked)
    go true = tt
    go false = tt

map_own : {P : Type 0} (o : Option P) (read : P → Result Request LineFault) (f : LineFault) → ((p : P) → FailsAfterClap (read p)) → option_map read o ≡ Some (Err f)
    → IsAfterClap f
map_own None read f own is = absurd cc
map_own (Some p) read f own is =
    let same : read p ≡ Err f = cc in
    subst FailsAfterClap same (own p)

-- no command answers as clap does
asked_own : (name : Text) (rows : List Row) (f : LineFault) → asked_in name rows ≡ Some (Err f) → IsAfterClap f
asked_own name rows f = go (bytes_eq name (codes "check")) (bytes_eq name (codes "share"))
  where
    go : (is_check is_share : Bool) → (if is_check then check_in rows else (if is_share then share_in rows else elect_in rows)) ≡ Some (Err f) → IsAfterClap f
    go true is_share is = map_own _ _ f (λ p. then_own _ (listed Committee p.1) (λ committee. asking_own rows (of_ballots (checking p.0 committee)))
        (ok_or_own (list_of p.1) (BadList Committee) tt)) is
    go false true is = map_own _ _ f (λ p. then_own (without_both rows) _ (without_both_own rows)
        (then_own _ (list_in Votes (codes "votes") rows) (λ votes. then_own _ (page_in rows)
        (λ page. asking_own rows (sharing_by votes p.0 (number_of p.1) page)) (page_own rows)) (list_own Votes (codes "votes") rows))) is
    go false false is = map_own _ _ f (λ p. then_own _ (page_in rows)
        (λ page. asking_own rows (of_ballots (electing p.0 (number_of p.1) page))) (page_own rows)) is

refused_is : (words : List Text) (sub : Text × List Row) (f : LineFault) → IsFound words sub → (f ≡ Memory) ⊎ (asked_in sub.0 sub.1 ≡ Some (Err f)) → RefusesWords words f
refused_is words sub f found (inl memory) = subst (RefusesWords words) (sym memory) tt
refused_is words sub f found (inr asked) = go f (asked_own sub.0 sub.1 f asked) (outcome_is words sub found ∙ asked)
  where
    go : (g : LineFault) → IsAfterClap g → outcome_of words ≡ Some (Err g) → RefusesWords words g
    go (Help text) own is = absurd own
    go (Usage text) own is = absurd own
    go (BadList option) own is = is
    go TwoPicks own is = is
    go VotesAndInput own is = is
    go Memory own is = tt

-- the code's outcome, in each of its clauses
pub request_there : (words : List Text) (sub : Text × List Row) (r : Result Request LineFault) → IsFound words sub → GivesAsked (asked_in sub.0 sub.1) r
    → IfOk r (λ a. request_of words ≡ Some a)
request_there words sub (Ok a) found gives = request_is words sub a found gives
request_there words sub (Err f) found gives = tt

pub fault_there : (words : List Text) (sub : Text × List Row) (r : Result Request LineFault) → IsFound words sub → GivesAsked (asked_in sub.0 sub.1) r
    → IfErr r (RefusesWords words)
fault_there words sub (Ok a) found gives = tt
fault_there words sub (Err f) found gives = refused_is words sub f found gives

pub only_refused : (sub : Text × List Row) (r : Result Request LineFault) → GivesAsked (asked_in sub.0 sub.1) r → IfErr r IsAfterClap
only_refused sub (Ok a) gives = tt
only_refused sub (Err f) (inl memory) = subst IsAfterClap (sym memory) tt
only_refused sub (Err f) (inr asked) = asked_own sub.0 sub.1 f asked
