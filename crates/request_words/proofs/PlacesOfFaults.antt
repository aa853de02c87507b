-- Where the names of a list of values lie changes nothing of the kinds of refusal.
use Rattle.std.proofs.Common.{◌≡◌, ◌∙◌, ◌+◌, ◌&&◌, ◌||◌, ℕ, Bool, List, [], ◌∷◌, map, length, drop, not, refl, sym, ap, ap₂, zero, suc, min}
use Rattle.std.specs.Prelude.{Option, Some, None, option_map, encode_utf8, slice_get, if◌then◌else◌, is_some}
use Rattle.std.specs.Str.{bytes_eq, chars}
use Rattle.std.specs.Option.{option_map_or}
use Rattle.clap.specs.Lexer.{long_of, short_of}
use Rattle.clap.specs.Matches.{count_text}
use Rattle.clap.specs.Facts.{parser_of_value, unwrap_or_range, explicit_source}
use Rattle.clap.specs.Values.{refused_kind}
use Rattle.clap.specs.Walk.{Held, Names, Row, Rule, Step, Text, Waiting, Walk, action_of, arg_by_id, arg_by_index, arg_by_long, arg_by_short, attached_value, count_of, finished, has_row, is_empty, is_pending, most_values, next, settled, subcommand, subcommand_met, takes_several, takes_values, trailing, value, values_or_missing, walk, walk_from, walked, with_default, word_met}
use Rattle.clap.specs.Simple.{Shape}
use Rattle.clap.specs.Kinds.{Kinds, or_else, range_kinds, request_kinds, value_kinds, values_kinds, check_kinds}
use Rattle.clap.specs.Faults.{action_fault, bundle_fault, bundle_step_fault, check_fault, default_fault, defaults_fault, flag_word_fault, flags_fault, level_fault, long_fault, option_fault, other_fault, positional_fault, react_fault, settle_fault, short_fault, step_fault, stray_fault, turn_fault, use_fault, walk_fault, word_fault, repeat_fault}
use Rattle.clap.specs.declared.builder.action.ArgAction.{ArgAction}
use Rattle.clap.specs.declared.builder.action.ArgAction.TheVariants as action
use Rattle.clap.specs.declared.builder.value_parser.ValueParser.{ValueParser}
use Rattle.clap.specs.declared.builder.value_parser.ValueParser.TheVariants as parser
use Rattle.clap.specs.declared.error.kind.ErrorKind.TheVariants as kind
use Rattle.request_words.proofs.Places.{accepts_placed, by_id, by_index, by_long, by_short, finished_placed, placed, placed_parser, reacted_placed, settled_placed, walk_placed, walked_placed, word_met_placed, with_default_placed}
use Rattle.std.specs.List.{list_any}
use Rattle.clap.specs.Takes.{is_given}
use Rattle.clap.proofs.WalkLemmas.{list_any-map}

-- ---- values

refused_placed : (p : Option ValueParser) → refused_kind (parser_of_value (placed_parser p)) ≡ refused_kind (parser_of_value p)
refused_placed (Some (parser.Names names)) = refl
refused_placed p = refl

value_placed : (ignore_case : Bool) (p : Option ValueParser) (text : Text)
    → value_kinds ignore_case (parser_of_value (placed_parser p)) text ≡ value_kinds ignore_case (parser_of_value p) text
value_placed ignore_case p text = λ i. if accepts_placed ignore_case p text i then [] else refused_placed p i ∷ []

values_placed : (ignore_case : Bool) (p : Option ValueParser) (values : List Text)
    → values_kinds ignore_case (parser_of_value (placed_parser p)) values ≡ values_kinds ignore_case (parser_of_value p) values
values_placed ignore_case p [] = refl
values_placed ignore_case p (v ∷ vs) = λ i. or_else (value_placed ignore_case p v i) (values_placed ignore_case p vs i)

-- ---- one use of an argument

action_placed : (x : ArgAction) (again : Bool) (a : Rule) (values : List Text) (rows : List Row)
    → action_fault x again (placed a) values rows ≡ action_fault x again a values rows
action_placed action.Count again a [] rows = value_placed a.ignore_case a.parser (count_text (min (count_of a.id rows + 1) 255))
action_placed action.Count again a (v ∷ vs) rows = values_placed a.ignore_case a.parser (v ∷ vs)
action_placed action.Append again a values rows = values_placed a.ignore_case a.parser values
action_placed action.Set again a values rows =
    ap (or_else (repeat_fault again a.id rows)) (values_placed a.ignore_case a.parser values)
action_placed action.SetTrue again a values rows =
    ap (or_else (repeat_fault again a.id rows)) (values_placed a.ignore_case a.parser values)
action_placed action.SetFalse again a values rows =
    ap (or_else (repeat_fault again a.id rows)) (values_placed a.ignore_case a.parser values)
action_placed other again a values rows = refl

use_placed : (again : Bool) (a : Rule) (values : List Text) (rows : List Row) → use_fault again (placed a) values rows ≡ use_fault again a values rows
use_placed again a values rows = ap (or_else (range_kinds (unwrap_or_range a.range).start_inclusive (most_values a) (length values)))
    (action_placed (action_of a) again a (values_or_missing a values) rows)

found_placed : (again : Bool) (o : Option Rule) (values : List Text) (rows : List Row)
    → option_map_or (λ a. use_fault again a values rows) (option_map placed o) [] ≡ option_map_or (λ a. use_fault again a values rows) o []
found_placed again None values rows = refl
found_placed again (Some a) values rows = use_placed again a values rows

pending_placed : (c : List Rule) (again : Bool) (p : Option (Text × List Text)) (rows : List Row)
    → option_map_or (λ q. option_map_or (λ a. use_fault again a q.1 rows) (arg_by_id (map placed c) q.0) []) p []
    ≡ option_map_or (λ q. option_map_or (λ a. use_fault again a q.1 rows) (arg_by_id c q.0) []) p []
pending_placed c again None rows = refl
pending_placed c again (Some q) rows =
    ap (λ o. option_map_or (λ a. use_fault again a q.1 rows) o []) (by_id c q.0) ∙ found_placed again (arg_by_id c q.0) q.1 rows

settle_placed : (c : List Rule) (again : Bool) (h : Held) → settle_fault (map placed c) again h ≡ settle_fault c again h
settle_placed c again h = pending_placed c again h.pending h.rows

react_placed : (c : List Rule) (again : Bool) (a : Rule) (values : List Text) (h : Held)
    → react_fault (map placed c) again (placed a) values h ≡ react_fault c again a values h
react_placed c again a values h = ap₂ or_else (settle_placed c again h)
    (ap (λ (s : Held). use_fault again (placed a) values s.rows) (settled_placed c h) ∙ use_placed again a values (settled c h).rows)

-- ---- flags and options

option_placed : (c : List Rule) (again : Bool) (a : Rule) (v : Option Text) (h : Held)
    → option_fault (map placed c) again (placed a) v h ≡ option_fault c again a v h
option_placed c again a (Some v) h = react_placed c again a (v ∷ []) h
option_placed c again a None h = settle_placed c again h

long_placed : (c : List Rule) (again : Bool) (o : Option Rule) (v : Option Text) (h : Held)
    → long_fault (map placed c) again (option_map placed o) v h ≡ long_fault c again o v h
long_placed c again None v h = refl
long_placed c again (Some a) v h = λ i. if takes_values a then option_placed c again a v h i
    else (if is_some v then kind.TooManyValues ∷ [] else react_placed c again a [] h i)

short_placed : (c : List Rule) (again : Bool) (o : Option Rule) (rest : Text) (h : Held) (later later' : Held → Kinds) → later ≡ later'
    → short_fault (map placed c) again (option_map placed o) rest h later ≡ short_fault c again o rest h later'
short_placed c again None rest h later later' e = refl
short_placed c again (Some a) rest h later later' e = λ i. if takes_values a then option_placed c again a (attached_value rest) h i
    else or_else (react_placed c again a [] h i) (e i (reacted_placed c a [] h i))

step_of_bundle : (c : List Rule) (again : Bool) (o : Option ℕ) (flags : Text) (skip : ℕ) (h : Held) (later later' : Text → ℕ → Held → Kinds)
    → later ≡ later' → bundle_step_fault (map placed c) again o flags skip h later ≡ bundle_step_fault c again o flags skip h later'
step_of_bundle c again None flags skip h later later' e = refl
step_of_bundle c again (Some x) flags zero h later later' e =
    let rest = drop (length (encode_utf8 x)) flags in
    ap (λ o. short_fault (map placed c) again o rest h (later rest 0)) (by_short c x)
    ∙ short_placed c again (arg_by_short c x) rest h (later rest 0) (later' rest 0) (λ i. e i rest 0)
step_of_bundle c again (Some x) flags (suc skip) h later later' e = λ i. e i (drop (length (encode_utf8 x)) flags) skip h

flags_placed : (c : List Rule) (again : Bool) (k : ℕ) (flags : Text) (skip : ℕ) (h : Held)
    → flags_fault (map placed c) again k flags skip h ≡ flags_fault c again k flags skip h
unfolding flags_fault
flags_placed c again zero flags skip h = refl
flags_placed c again (suc k) flags skip h =
    step_of_bundle c again (slice_get (chars flags) 0) flags skip h (flags_fault (map placed c) again k) (flags_fault c again k)
    (λ i f s g. flags_placed c again k f s g i)

-- ---- a word

short_flags_placed : (c : List Rule) (again : Bool) (flags : Option Text) (h : Held)
    → option_map_or (λ f. bundle_fault (map placed c) again f h) flags [] ≡ option_map_or (λ f. bundle_fault c again f h) flags []
short_flags_placed c again None h = refl
short_flags_placed c again (Some flags) h = flags_placed c again (length flags) flags h.skip (record h { skip = 0 })

flag_word_placed : (c : List Rule) (again : Bool) (o : Option (Text × Option Text)) (word : Text) (h : Held)
    → flag_word_fault (map placed c) again o word h ≡ flag_word_fault c again o word h
flag_word_placed c again (Some p) word h =
    ap (λ o. long_fault (map placed c) again o p.1 h) (by_long c p.0) ∙ long_placed c again (arg_by_long c p.0) p.1 h
flag_word_placed c again None word h = short_flags_placed c again (short_of word) h

-- a command with its names at one place
abbrev pub at_place : Shape → Shape
at_place s = record s { rules = map placed s.rules }

other_placed : (s : Shape) (name : Option Text) (word : Text) (h : Held) → other_fault (at_place s) name word h ≡ other_fault s name word h
other_placed s (Some name) word h = refl
other_placed s None word h = λ i. if bytes_eq word (45 ∷ 45 ∷ []) then [] else flag_word_placed s.rules s.args_override_self (long_of word) word h i

word_placed : (s : Shape) (names : Names) (is_trailing : Bool) (waiting : Waiting) (word : Text) (h : Held)
    → word_fault (at_place s) names is_trailing waiting word h ≡ word_fault s names is_trailing waiting word h
word_placed s names is_trailing waiting word h = λ i. if is_trailing then [] else other_placed s (subcommand_met names waiting word) word h i

positional_placed : (c : List Rule) (again : Bool) (a : Rule) (h : Held)
    → positional_fault (map placed c) again (placed a) h ≡ positional_fault c again a h
positional_placed c again a h = λ i. if is_pending a h.pending && takes_several a then [] else settle_placed c again h i

place_placed : (c : List Rule) (again : Bool) (o : Option Rule) (h : Held) (stray : Kinds)
    → option_map_or (λ a. positional_fault (map placed c) again a h) (option_map placed o) stray
    ≡ option_map_or (λ a. positional_fault c again a h) o stray
place_placed c again None h stray = refl
place_placed c again (Some a) h stray = positional_placed c again a h

step_placed : (s : Shape) (position : ℕ) (h : Held) (x : Step) → step_fault (at_place s) position h x ≡ step_fault s position h x
step_placed s position h (next waiting) = refl
step_placed s position h (trailing p) = refl
step_placed s position h (subcommand name) = refl
step_placed s position h value =
    ap (λ o. option_map_or (λ a. positional_fault (map placed s.rules) s.args_override_self a h) o (stray_fault s)) (by_index s.rules position)
    ∙ place_placed s.rules s.args_override_self (arg_by_index s.rules position) h (stray_fault s)

turn_placed : (s : Shape) (names : Names) (w : Walk) (word : Text) → turn_fault (at_place s) names w word ≡ turn_fault s names w word
turn_placed s names w word =
    let met = word_met s.rules names w.is_trailing w.waiting w.position word w.held in
    let step = ap (λ (m : Held × Step). step_fault (at_place s) w.position m.0 m.1) (word_met_placed s.rules names w.is_trailing w.waiting w.position word w.held)
    ∙ step_placed s w.position met.0 met.1 in
    λ i. if is_some w.stopped then [] else or_else (word_placed s names w.is_trailing w.waiting word w.held i) (step i)

walk_fault_placed : (s : Shape) (names : Names) (w : Walk) (words : List Text) → walk_fault (at_place s) names w words ≡ walk_fault s names w words
unfolding walk_fault
walk_fault_placed s names w [] = refl
walk_fault_placed s names w (word ∷ rest) = ap₂ or_else (turn_placed s names w word)
    (ap (λ v. walk_fault (at_place s) names v rest) (walked_placed s.rules names w word) ∙ walk_fault_placed s names (walked s.rules names w word) rest)

-- ---- after the walk

default_placed : (rows : List Row) (a : Rule) → default_fault rows (placed a) ≡ default_fault rows a
default_placed rows a = λ i. if has_row a.id rows || is_empty a.defaults then []
    else or_else (request_kinds (action_of a)) (values_placed a.ignore_case a.parser a.defaults i)

defaults_placed : (rows : List Row) (c : List Rule) → defaults_fault rows (map placed c) ≡ defaults_fault rows c
unfolding defaults_fault
defaults_placed rows [] = refl
defaults_placed rows (a ∷ c) = ap₂ or_else (default_placed rows a)
    (ap (λ r. defaults_fault r (map placed c)) (with_default_placed rows a) ∙ defaults_placed (with_default rows a) c)

missing_placed : (rows : List Row) (c : List Rule)
    → list_any (λ (a : Rule). a.required && not (is_given a.id rows)) (map placed c)
    ≡ list_any (λ (a : Rule). a.required && not (is_given a.id rows)) c
missing_placed rows c = sym (list_any-map (λ (a : Rule). a.required && not (is_given a.id rows)) placed c)

check_placed : (s : Shape) (rows : List Row) (has : Bool) → check_fault (at_place s) rows has ≡ check_fault s rows has
check_placed s rows has = λ i. check_kinds
    (not has && (s.arg_required_else_help && not (list_any (λ (r : Row). explicit_source r.source) rows)))
    (not has && s.subcommand_required) (not (s.subcommand_negates_reqs && has) && missing_placed rows s.rules i)

pub level_placed : (s : Shape) (names : Names) (h : Held) (words : List Text) (has : Bool) (below : Kinds)
    → level_fault (at_place s) names h words has below ≡ level_fault s names h words has below
level_placed s names h words has below =
    let end = (walk s.rules names h words).held in
    let ends : (walk (map placed s.rules) names h words).held ≡ end = ap (λ (w : Walk). w.held) (walk_placed s.rules names h words) in
    let settle = ap (settle_fault (map placed s.rules) s.args_override_self) ends ∙ settle_placed s.rules s.args_override_self end in
    let rows = ap (λ (g : Held). (settled (map placed s.rules) g).rows) ends ∙ ap (λ (g : Held). g.rows) (settled_placed s.rules end) in
    let defaults = ap (λ r. defaults_fault r (map placed s.rules)) rows ∙ defaults_placed (settled s.rules end).rows s.rules in
    let last = ap (finished (map placed s.rules)) ends ∙ finished_placed s.rules end in
    let check = ap (λ r. check_fault (at_place s) r has) last ∙ check_placed s (finished s.rules end) has in
    λ i. or_else (walk_fault_placed s names (walk_from h) words i) (or_else below (or_else (settle i) (or_else (defaults i) (check i))))
