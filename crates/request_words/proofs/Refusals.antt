-- A command whose defaults pass takes the words exactly where clap has no refusal for them.
use Rattle.std.proofs.Common.{◌≡◌, ◌∙◌, ◌+◌, ◌&&◌, ◌||◌, ℕ, Bool, List, [], ◌∷◌, length, drop, not, refl, sym, ap, ap₂, zero, suc, codes, min, true, false, arith, nat_le}
use Rattle.std.specs.Prelude.{Option, Some, None, encode_utf8, slice_get, if◌then◌else◌, is_some, find}
use Rattle.std.specs.List.{list_all, list_any}
use Rattle.std.specs.Option.{option_map_or}
use Rattle.std.specs.Str.{bytes_eq, chars}
use Rattle.std.proofs.lemmas.Bool.{ne_eqb}
use Rattle.std.proofs.lemmas.Bool.Decides.{nat_tests}
use Rattle.clap.specs.Lexer.{long_of, short_of}
use Rattle.clap.specs.Matches.{count_text}
use Rattle.clap.specs.Facts.{explicit_source, parser_of_value, unwrap_or_range}
use Rattle.clap.specs.Values.{is_request, refused_kind}
use Rattle.clap.specs.ValueTests.{accepts}
use Rattle.clap.specs.Walk.{Held, Names, Row, Rule, Step, Text, Waiting, Walk, action_of, answers_to, arg_by_id, arg_by_index, arg_by_long, arg_by_short, attached_value, count_of, finished, has_row, is_empty, is_pending, next, nothing_held, reacted, settled, subcommand, subcommand_met, takes_several, takes_values, trailing, value, values_or_missing, walk, walk_from, walked, with_default, word_met}
use Rattle.clap.specs.Simple.{App, Shape, argument_words, built, entered, label_of, names_of}
use Rattle.clap.specs.Kinds.{Kinds, check_kinds, or_else, range_kinds, request_kinds, value_kinds}
use Rattle.clap.specs.Words.{fault_of, is_simple, takes}
use Rattle.clap.specs.Takes.{action_passes, bundle_passes, bundle_step_passes, default_passes, entered_passes, flag_word_passes, flags_pass, is_given, is_valid, level_passes, long_passes, option_passes, other_passes, positional_passes, react_passes, settle_passes, short_passes, step_passes, turn_passes, use_passes, value_passes, values_pass, walk_passes, word_passes}
use Rattle.clap.specs.Faults.{action_fault, bundle_fault, bundle_step_fault, check_fault, default_fault, defaults_fault, entered_fault, flag_word_fault, flags_fault, level_fault, long_fault, option_fault, other_fault, positional_fault, react_fault, settle_fault, short_fault, step_fault, stray_fault, turn_fault, use_fault, values_fault, walk_fault, word_fault}
use Rattle.clap.proofs.WalkLemmas.{both}
use Rattle.clap.specs.declared.builder.action.ArgAction.{ArgAction}
use Rattle.clap.specs.declared.builder.action.ArgAction.TheVariants as action
use Rattle.clap.specs.declared.error.kind.ErrorKind.{ErrorKind}
use Rattle.clap.specs.declared.error.kind.ErrorKind.TheVariants as kind

-- ---- tests of a list of kinds

pub some_kind : (k : ErrorKind) (ks : Kinds) → is_empty (k ∷ ks) ≡ false
some_kind k ks = ne_eqb (length (k ∷ ks)) 0 (λ e. omega arith)

none_of : (a b : Kinds) → (is_empty a && is_empty b) ≡ is_empty (or_else a b)
none_of [] b = refl
none_of (k ∷ ks) b = ap (λ t. t && is_empty b) (some_kind k ks) ∙ sym (some_kind k ks)

both_none : (p q : Bool) (a b : Kinds) → p ≡ is_empty a → q ≡ is_empty b → (p && q) ≡ is_empty (or_else a b)
both_none p q a b e f = ap₂ (λ x y. x && y) e f ∙ none_of a b

or_none : (t p : Bool) (a : Kinds) → p ≡ is_empty a → (t || p) ≡ is_empty (if t then [] else a)
or_none true p a e = refl
or_none false p a e = e

either_none : (t p q : Bool) (a b : Kinds) → p ≡ is_empty a → q ≡ is_empty b → (if t then p else q) ≡ is_empty (if t then a else b)
either_none true p q a b e f = e
either_none false p q a b e f = f

unless_none : (t p : Bool) (k : ErrorKind) (a : Kinds) → p ≡ is_empty a → (not t && p) ≡ is_empty (if t then k ∷ [] else a)
unless_none true p k a e = refl
unless_none false p k a e = e

-- ---- one use of an argument

value_none : (a : Rule) (v : Text) → value_passes a v ≡ is_empty (value_kinds a.ignore_case (parser_of_value a.parser) v)
value_none a v = go (accepts a.ignore_case (parser_of_value a.parser) v)
  where
    go : (t : Bool) → t ≡ is_empty (if t then [] else refused_kind (parser_of_value a.parser) ∷ [])
    go true = refl
    go false = refl

values_none : (a : Rule) (values : List Text) → values_pass a values ≡ is_empty (values_fault a values)
values_none a [] = refl
values_none a (v ∷ vs) = both_none _ _ _ _ (value_none a v) (values_none a vs)

range_none : (least most n : ℕ) → (nat_le least n && nat_le n most) ≡ is_empty (range_kinds least most n)
range_none least most n = grind (arith, nat_tests)

set_none : (has again : Bool) → (not has || again) ≡ is_empty (if has && not again then kind.ArgumentConflict ∷ [] else [])
set_none true true = refl
set_none true false = refl
set_none false again = refl

action_none : (x : ArgAction) (again : Bool) (a : Rule) (values : List Text) (rows : List Row)
    → action_passes x again a values rows ≡ is_empty (action_fault x again a values rows)
action_none action.Set again a values rows = both_none _ _ _ _ (set_none (has_row a.id rows) again) (values_none a values)
action_none action.SetTrue again a values rows = both_none _ _ _ _ (set_none (has_row a.id rows) again) (values_none a values)
action_none action.SetFalse again a values rows = both_none _ _ _ _ (set_none (has_row a.id rows) again) (values_none a values)
action_none action.Append again a values rows = values_none a values
action_none action.Count again a [] rows = value_none a (count_text (min (count_of a.id rows + 1) 255))
action_none action.Count again a (v ∷ vs) rows = values_none a (v ∷ vs)
action_none other again a values rows = refl

grouped : (a b c : Bool) → (a && (b && c)) ≡ ((a && b) && c)
grouped true b c = refl
grouped false b c = refl

use_none : (again : Bool) (a : Rule) (values : List Text) (rows : List Row) → use_passes again a values rows ≡ is_empty (use_fault again a values rows)
use_none again a values rows =
    let r = unwrap_or_range a.range in
    grouped (nat_le r.start_inclusive (length values)) (nat_le (length values) r.end_inclusive) _
    ∙ both_none _ _ _ _ (range_none r.start_inclusive r.end_inclusive (length values))
    (action_none (action_of a) again a (values_or_missing a values) rows)

settle_none : (c : List Rule) (again : Bool) (h : Held) → settle_passes c again h ≡ is_empty (settle_fault c again h)
settle_none c again h = go h.pending
  where
    found : (o : Option Rule) (values : List Text)
        → option_map_or (λ a. use_passes again a values h.rows) o true ≡ is_empty (option_map_or (λ a. use_fault again a values h.rows) o [])
    found None values = refl
    found (Some a) values = use_none again a values h.rows

    go : (p : Option (Text × List Text)) → option_map_or (λ q. option_map_or (λ a. use_passes again a q.1 h.rows) (arg_by_id c q.0) true) p true
        ≡ is_empty (option_map_or (λ q. option_map_or (λ a. use_fault again a q.1 h.rows) (arg_by_id c q.0) []) p [])
    go None = refl
    go (Some q) = found (arg_by_id c q.0) q.1

react_none : (c : List Rule) (again : Bool) (a : Rule) (values : List Text) (h : Held)
    → react_passes c again a values h ≡ is_empty (react_fault c again a values h)
react_none c again a values h = both_none _ _ _ _ (settle_none c again h) (use_none again a values (settled c h).rows)

-- ---- flags and options

option_none : (c : List Rule) (again : Bool) (a : Rule) (v : Option Text) (h : Held) → option_passes c again a v h ≡ is_empty (option_fault c again a v h)
option_none c again a (Some v) h = react_none c again a (v ∷ []) h
option_none c again a None h = settle_none c again h

long_none : (c : List Rule) (again : Bool) (o : Option Rule) (v : Option Text) (h : Held) → long_passes c again o v h ≡ is_empty (long_fault c again o v h)
long_none c again None v h = refl
long_none c again (Some a) v h = either_none (takes_values a) _ _ _ _ (option_none c again a v h)
    (unless_none (is_some v) _ kind.TooManyValues _ (react_none c again a [] h))

short_none : (c : List Rule) (again : Bool) (o : Option Rule) (rest : Text) (h : Held) (later : Held → Bool) (fault : Held → Kinds)
    → ((g : Held) → later g ≡ is_empty (fault g)) → short_passes c again o rest h later ≡ is_empty (short_fault c again o rest h fault)
short_none c again None rest h later fault e = refl
short_none c again (Some a) rest h later fault e = either_none (takes_values a) _ _ _ _ (option_none c again a (attached_value rest) h)
    (both_none _ _ _ _ (react_none c again a [] h) (e (reacted c a [] h)))

bundle_step_none : (c : List Rule) (again : Bool) (o : Option ℕ) (flags : Text) (skip : ℕ) (h : Held) (later : Text → ℕ → Held → Bool)
    (fault : Text → ℕ → Held → Kinds) → ((f : Text) (s : ℕ) (g : Held) → later f s g ≡ is_empty (fault f s g))
    → bundle_step_passes c again o flags skip h later ≡ is_empty (bundle_step_fault c again o flags skip h fault)
bundle_step_none c again None flags skip h later fault e = refl
bundle_step_none c again (Some x) flags zero h later fault e =
    let rest = drop (length (encode_utf8 x)) flags in
    short_none c again (arg_by_short c x) rest h (later rest 0) (fault rest 0) (e rest 0)
bundle_step_none c again (Some x) flags (suc skip) h later fault e = e (drop (length (encode_utf8 x)) flags) skip h

flags_none : (c : List Rule) (again : Bool) (k : ℕ) (flags : Text) (skip : ℕ) (h : Held)
    → flags_pass c again k flags skip h ≡ is_empty (flags_fault c again k flags skip h)
unfolding flags_pass flags_fault
flags_none c again zero flags skip h = refl
flags_none c again (suc k) flags skip h =
    bundle_step_none c again (slice_get (chars flags) 0) flags skip h (flags_pass c again k) (flags_fault c again k) (flags_none c again k)

-- ---- a word

flag_word_none : (c : List Rule) (again : Bool) (o : Option (Text × Option Text)) (word : Text) (h : Held)
    → flag_word_passes c again o word h ≡ is_empty (flag_word_fault c again o word h)
flag_word_none c again (Some p) word h = long_none c again (arg_by_long c p.0) p.1 h
flag_word_none c again None word h = go (short_of word)
  where
    go : (o : Option Text) → option_map_or (λ flags. bundle_passes c again flags h) o true ≡ is_empty (option_map_or (λ flags. bundle_fault c again flags h) o [])
    go None = refl
    go (Some flags) = flags_none c again (length flags) flags h.skip (record h { skip = 0 })

help_none : (t disabled : Bool) → (not t || disabled) ≡ is_empty (if t && not disabled then kind.DisplayHelp ∷ kind.InvalidSubcommand ∷ [] else [])
help_none true true = refl
help_none true false = refl
help_none false disabled = refl

other_none : (s : Shape) (name : Option Text) (word : Text) (h : Held) → other_passes s name word h ≡ is_empty (other_fault s name word h)
other_none s (Some name) word h = help_none (bytes_eq name (codes "help")) s.disable_help_subcommand
other_none s None word h = or_none (bytes_eq word (45 ∷ 45 ∷ [])) _ _ (flag_word_none s.rules s.args_override_self (long_of word) word h)

word_none : (s : Shape) (names : Names) (is_trailing : Bool) (waiting : Waiting) (word : Text) (h : Held)
    → word_passes s names is_trailing waiting word h ≡ is_empty (word_fault s names is_trailing waiting word h)
word_none s names is_trailing waiting word h = or_none is_trailing _ _ (other_none s (subcommand_met names waiting word) word h)

step_none : (s : Shape) (position : ℕ) (h : Held) (x : Step) → step_passes s position h x ≡ is_empty (step_fault s position h x)
step_none s position h (next waiting) = refl
step_none s position h (trailing p) = refl
step_none s position h (subcommand name) = refl
step_none s position h value = go (arg_by_index s.rules position)
  where
    stray : (leaf : Bool) → false ≡ is_empty (if leaf then kind.UnknownArgument ∷ [] else kind.UnknownArgument ∷ kind.InvalidSubcommand ∷ [])
    stray true = refl
    stray false = refl

    go : (o : Option Rule) → option_map_or (λ a. positional_passes s.rules s.args_override_self a h) o false
        ≡ is_empty (option_map_or (λ a. positional_fault s.rules s.args_override_self a h) o (stray_fault s))
    go None = stray s.is_leaf
    go (Some a) = or_none (is_pending a h.pending && takes_several a) _ _ (settle_none s.rules s.args_override_self h)

turn_none : (s : Shape) (names : Names) (w : Walk) (word : Text) → turn_passes s names w word ≡ is_empty (turn_fault s names w word)
turn_none s names w word =
    let met = word_met s.rules names w.is_trailing w.waiting w.position word w.held in
    or_none (is_some w.stopped) _ _
    (both_none _ _ _ _ (word_none s names w.is_trailing w.waiting word w.held) (step_none s w.position met.0 met.1))

walk_none : (s : Shape) (names : Names) (w : Walk) (words : List Text) → walk_passes s names w words ≡ is_empty (walk_fault s names w words)
unfolding walk_passes walk_fault
walk_none s names w [] = refl
walk_none s names w (word ∷ rest) = both_none _ _ _ _ (turn_none s names w word) (walk_none s names (walked s.rules names w word) rest)

-- ---- after the walk

none_empty : (ks : Kinds) → is_empty ks ≡ true → ks ≡ []
none_empty [] e = refl
none_empty (k ∷ ks) e = absurd (let bad : false ≡ true = sym (some_kind k ks) ∙ e in cc)

no_request_kinds : (x : ArgAction) → not (is_request x) ≡ is_empty (request_kinds x)
no_request_kinds action.Set = refl
no_request_kinds action.Append = refl
no_request_kinds action.SetTrue = refl
no_request_kinds action.SetFalse = refl
no_request_kinds action.Count = refl
no_request_kinds action.Help = refl
no_request_kinds action.HelpShort = refl
no_request_kinds action.HelpLong = refl
no_request_kinds action.Version = refl

default_none : (rows : List Row) (a : Rule) → default_passes a ≡ true → default_fault rows a ≡ []
default_none rows a e = go (has_row a.id rows) (is_empty a.defaults) e
  where
    checked : (not (is_request (action_of a)) && values_pass a a.defaults) ≡ is_empty (or_else (request_kinds (action_of a)) (values_fault a a.defaults))
    checked = both_none _ _ _ _ (no_request_kinds (action_of a)) (values_none a a.defaults)

    go : (has none : Bool) → (none || (not (is_request (action_of a)) && values_pass a a.defaults)) ≡ true
        → (if has || none then [] else or_else (request_kinds (action_of a)) (values_fault a a.defaults)) ≡ []
    go true none passes = refl
    go false true passes = refl
    go false false passes = none_empty _ (sym checked ∙ passes)

defaults_none : (rows : List Row) (c : List Rule) → list_all default_passes c ≡ true → defaults_fault rows c ≡ []
unfolding defaults_fault
defaults_none rows [] e = refl
defaults_none rows (a ∷ c) e =
    let parts = both (default_passes a) (list_all default_passes c) e in
    rw (default_none rows a parts.0) (defaults_none (with_default rows a) c parts.1)

missing_none : (rows : List Row) (c : List Rule)
    → list_all (λ (a : Rule). not a.required || is_given a.id rows) c ≡ not (list_any (λ (a : Rule). a.required && not (is_given a.id rows)) c)
missing_none rows [] = refl
missing_none rows (a ∷ c) = go a.required (is_given a.id rows) (missing_none rows c)
  where
    go : (r g : Bool) → list_all (λ (x : Rule). not x.required || is_given x.id rows) c ≡ not (list_any (λ (x : Rule). x.required && not (is_given x.id rows)) c)
        → ((not r || g) && list_all (λ (x : Rule). not x.required || is_given x.id rows) c)
        ≡ not ((r && not g) || list_any (λ (x : Rule). x.required && not (is_given x.id rows)) c)
    go true true e = e
    go true false e = refl
    go false g e = e

-- the command's defaults pass, it has no rule on two arguments, and wants its arguments beside a subcommand
abbrev pub is_bare : Shape → Bool
is_bare s = (not s.arg_required_else_help && not s.subcommand_negates_reqs) && (list_all (λ a. a.is_free) s.rules && list_all default_passes s.rules)

check_none : (has req missing any : Bool)
    → ((not req || has) && not missing) ≡ is_empty (check_kinds (not has && (false && not any)) (not has && req) (not (false && has) && missing))
check_none true true true any = refl
check_none true true false any = refl
check_none true false true any = refl
check_none true false false any = refl
check_none false true missing any = refl
check_none false false true any = refl
check_none false false false any = refl

is_off : (b : Bool) → not b ≡ true → b ≡ false
is_off true e = sym e
is_off false e = refl

valid_none : (s : Shape) (rows : List Row) (has : Bool) → is_bare s ≡ true → is_valid s rows has ≡ is_empty (check_fault s rows has)
valid_none s rows has bare =
    let parts = both (not s.arg_required_else_help && not s.subcommand_negates_reqs) _ bare in
    let settings = both (not s.arg_required_else_help) _ parts.0 in
    let help = is_off s.arg_required_else_help settings.0 in
    let negates = is_off s.subcommand_negates_reqs settings.1 in
    let free = (both (list_all (λ a. a.is_free) s.rules) _ parts.1).0 in
    rw (help, negates, free, missing_none rows s.rules)
    (check_none has s.subcommand_required (list_any (λ (a : Rule). a.required && not (is_given a.id rows)) s.rules)
    (list_any (λ (r : Row). explicit_source r.source) rows))

swapped : (a b c : Bool) → (a && (b && c)) ≡ (b && (a && c))
swapped true true c = refl
swapped true false c = refl
swapped false true c = refl
swapped false false c = refl

level_none : (s : Shape) (names : Names) (h : Held) (words : List Text) (has : Bool) (below : Kinds) (passes : Bool) → is_bare s ≡ true
    → passes ≡ is_empty below → (passes && level_passes s names h words has) ≡ is_empty (level_fault s names h words has below)
level_none s names h words has below passes bare e =
    let end = (walk s.rules names h words).held in
    let parts = both (not s.arg_required_else_help && not s.subcommand_negates_reqs) _ bare in
    let passing = (both (list_all (λ a. a.is_free) s.rules) _ parts.1).1 in
    let no_fault = defaults_none (settled s.rules end).rows s.rules passing in
    let no_default : list_all default_passes s.rules ≡ is_empty (defaults_fault (settled s.rules end).rows s.rules) = rw (passing, no_fault) refl in
    swapped passes (walk_passes s names (walk_from h) words) _
    ∙ both_none _ _ _ _ (walk_none s names (walk_from h) words)
    (both_none _ _ _ _ e
    (both_none _ _ _ _ (settle_none s.rules s.args_override_self end)
    (both_none _ _ _ _ no_default (valid_none s (finished s.rules end) has bare))))

found_passes : {X : Type 0} (p q : X → Bool) (xs : List X) → list_all p xs ≡ true → option_map_or p (find q xs) true ≡ true
found_passes p q [] e = refl
found_passes p q (x ∷ xs) e = go (q x) (both (p x) _ e).0 (found_passes p q xs (both (p x) _ e).1)
  where
    go : (t : Bool) → p x ≡ true → option_map_or p (find q xs) true ≡ true → option_map_or p (if t then Some x else find q xs) true ≡ true
    go true here there = here
    go false here there = there

entered_none : (a : App) (stop : Option (Text × List Text)) → list_all is_bare a.subs ≡ true → entered_passes a stop ≡ is_empty (entered_fault a stop)
entered_none a None bare = refl
entered_none a (Some p) bare = go (find (λ s. answers_to p.0 (label_of s)) a.subs) (found_passes is_bare (λ s. answers_to p.0 (label_of s)) a.subs bare)
  where
    go : (o : Option Shape) → option_map_or is_bare o true ≡ true
        → option_map_or (λ s. level_passes s [] nothing_held p.1 false) o true ≡ is_empty (option_map_or (λ s. level_fault s [] nothing_held p.1 false []) o [])
    go None e = refl
    go (Some s) e = level_none s [] nothing_held p.1 false [] true e refl

-- clap takes the words of such a command exactly where it has no refusal
pub taken_none : (a : App) (words : List Text) → is_simple a ≡ true → is_bare (built a).top ≡ true → list_all is_bare (built a).subs ≡ true
    → takes a words ≡ is_empty (fault_of a words)
taken_none a words simple top subs =
    let b = built a in
    let after = argument_words a words in
    let stop = (walk b.top.rules (names_of b) nothing_held after).stopped in
    let level = level_none b.top (names_of b) nothing_held after (is_some (entered b stop)) (entered_fault b stop) (entered_passes b stop) top (entered_none b stop subs) in
    rw simple level
