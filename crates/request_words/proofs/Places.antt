-- Where the names of a list of values lie changes nothing of what clap makes of the words.
use Rattle.std.proofs.Common.{◌≡◌, ◌∙◌, ◌&&◌, ℕ, Bool, List, [], ◌∷◌, map, length, drop, refl, sym, ap, zero, suc}
use Rattle.std.specs.Prelude.{Option, Some, None, option_map, encode_utf8, slice_get, if◌then◌else◌, fold}
use Rattle.std.specs.Borrow.{Bor}
use Rattle.std.specs.Str.{bytes_eq, chars}
use Rattle.clap.specs.Lexer.{long_of, short_of}
use Rattle.clap.specs.Facts.{parser_of_value}
use Rattle.clap.specs.Values.{reading_of, same_text}
use Rattle.clap.specs.ValueTests.{accepts}
use Rattle.clap.specs.Walk.{Held, Names, Outcome, Row, Rule, Step, Text, Waiting, Walk, action_of, after_flag, after_step, arg_by_id, arg_by_index, arg_by_long, arg_by_short, attached_value, bundle, bundle_met, bundle_step, done, finished, flag_met, idle, is_pending, long_met, long_or_other, long_word, next, option, option_met, option_word, plain, plain_word, positional, positional_held, reacted, reading_by, refused, rows_after, settled, settled_rows, short_met, short_or_plain, subcommand, subcommand_met, subcommand_or_other, takes_several, takes_values, to_positional, trailing, used, used_as, used_by_id, value, values_or_missing, waits, walk, walk_from, walked, walked_from, with_default, word_met, default_rows, has_row, nothing_held, pushed}
use Rattle.clap.specs.declared.builder.value_parser.ValueParser.{ValueParser}
use Rattle.clap.specs.declared.builder.value_parser.ValueParser.TheVariants as parser
use Rattle.clap.proofs.WalkLemmas.{find-map, list_any-map}
use Rattle.request_words.specs.Words.{shown}

-- the parser with its names at one place
abbrev pub placed_parser : Option ValueParser → Option ValueParser
placed_parser (Some (parser.Names names)) = Some (parser.Names (shown (map (λ x. shown x.now) names.now)))
placed_parser p = p

abbrev pub placed : Rule → Rule
placed a = record a { parser = placed_parser a.parser }

reading_parser : (p : Option ValueParser) → reading_of (parser_of_value (placed_parser p)) ≡ reading_of (parser_of_value p)
reading_parser (Some (parser.Names names)) = refl
reading_parser p = refl

reading_placed : (a : Rule) → reading_by (placed a) ≡ reading_by a
reading_placed a = reading_parser a.parser

pub accepts_placed : (ignore_case : Bool) (p : Option ValueParser) (text : Text)
    → accepts ignore_case (parser_of_value (placed_parser p)) text ≡ accepts ignore_case (parser_of_value p) text
accepts_placed ignore_case (Some (parser.Names names)) text =
    sym (list_any-map (λ (name : Bor Text). same_text ignore_case name.now text) (λ x. shown x.now) names.now)
accepts_placed ignore_case p text = refl

-- ---- the first argument that passes

pub by_id : (c : List Rule) (id : Text) → arg_by_id (map placed c) id ≡ option_map placed (arg_by_id c id)
by_id c id = sym (find-map (λ (a : Rule). bytes_eq a.id id) placed c)

pub by_long : (c : List Rule) (name : Text) → arg_by_long (map placed c) name ≡ option_map placed (arg_by_long c name)
by_long c name = sym (find-map _ placed c)

pub by_short : (c : List Rule) (x : ℕ) → arg_by_short (map placed c) x ≡ option_map placed (arg_by_short c x)
by_short c x = sym (find-map _ placed c)

pub by_index : (c : List Rule) (i : ℕ) → arg_by_index (map placed c) i ≡ option_map placed (arg_by_index c i)
by_index c i = sym (find-map _ placed c)

-- ---- one use of an argument

pub used_placed : (a : Rule) (values : List Text) (rows : List Row) → used (placed a) values rows ≡ used a values rows
used_placed a values rows = ap (λ how. used_as (action_of a) a.id how (values_or_missing a values) rows) (reading_placed a)

used_found : (o : Option Rule) (values : List Text) (rows : List Row) → used_by_id (option_map placed o) values rows ≡ used_by_id o values rows
used_found None values rows = refl
used_found (Some a) values rows = used_placed a values rows

settled_rows_placed : (c : List Rule) (p : Option (Text × List Text)) (rows : List Row) → settled_rows (map placed c) p rows ≡ settled_rows c p rows
settled_rows_placed c None rows = refl
settled_rows_placed c (Some p) rows = ap (λ o. used_by_id o p.1 rows) (by_id c p.0) ∙ used_found (arg_by_id c p.0) p.1 rows

pub settled_placed : (c : List Rule) (h : Held) → settled (map placed c) h ≡ settled c h
settled_placed c h = ap (λ rows. record h { rows = rows; pending = None }) (settled_rows_placed c h.pending h.rows)

pub reacted_placed : (c : List Rule) (a : Rule) (values : List Text) (h : Held) → reacted (map placed c) (placed a) values h ≡ reacted c a values h
reacted_placed c a values h = ap (λ rows. record h { rows = rows; pending = None })
    (used_placed a values _ ∙ ap (λ (s : Held). used a values s.rows) (settled_placed c h))

-- ---- flags and options

option_met_placed : (c : List Rule) (a : Rule) (v : Option Text) (h : Held) → option_met (map placed c) (placed a) v h ≡ option_met c a v h
option_met_placed c a (Some v) h = λ i. (reacted_placed c a (v ∷ []) h i, done)
option_met_placed c a None h = λ i. (record (settled_placed c h i) { pending = Some (a.id, []) }, waits a.id)

flag_met_placed : (c : List Rule) (a : Rule) (v : Option Text) (h : Held) → flag_met (map placed c) (placed a) v h ≡ flag_met c a v h
flag_met_placed c a (Some v) h = refl
flag_met_placed c a None h = λ i. (reacted_placed c a [] h i, done)

long_met_placed : (c : List Rule) (o : Option Rule) (v : Option Text) (h : Held) → long_met (map placed c) (option_map placed o) v h ≡ long_met c o v h
long_met_placed c None v h = refl
long_met_placed c (Some a) v h = λ i. if takes_values a then option_met_placed c a v h i else flag_met_placed c a v h i

short_met_placed : (c : List Rule) (o : Option Rule) (rest : Text) (h : Held) (later later' : Held → Held × Outcome) → later ≡ later'
    → short_met (map placed c) (option_map placed o) rest h later ≡ short_met c o rest h later'
short_met_placed c None rest h later later' e = refl
short_met_placed c (Some a) rest h later later' e =
    λ i. if takes_values a then option_met_placed c a (attached_value rest) h i else e i (reacted_placed c a [] h i)

bundle_step_placed : (c : List Rule) (o : Option ℕ) (flags : Text) (skip : ℕ) (so_far : Outcome) (h : Held)
    (later later' : Text → ℕ → Outcome → Held → Held × Outcome) → later ≡ later'
    → bundle_step (map placed c) o flags skip so_far h later ≡ bundle_step c o flags skip so_far h later'
bundle_step_placed c None flags skip so_far h later later' e = refl
bundle_step_placed c (Some x) flags zero so_far h later later' e =
    let rest = drop (length (encode_utf8 x)) flags in
    ap (λ o. short_met (map placed c) o rest h (later rest 0 done)) (by_short c x)
    ∙ short_met_placed c (arg_by_short c x) rest h (later rest 0 done) (later' rest 0 done) (λ i. e i rest 0 done)
bundle_step_placed c (Some x) flags (suc skip) so_far h later later' e = λ i. e i (drop (length (encode_utf8 x)) flags) skip so_far h

bundle_met_placed : (c : List Rule) (k : ℕ) (flags : Text) (skip : ℕ) (so_far : Outcome) (h : Held)
    → bundle_met (map placed c) k flags skip so_far h ≡ bundle_met c k flags skip so_far h
unfolding bundle_met
bundle_met_placed c zero flags skip so_far h = refl
bundle_met_placed c (suc k) flags skip so_far h =
    bundle_step_placed c (slice_get (chars flags) 0) flags skip so_far h (bundle_met (map placed c) k) (bundle_met c k)
    (λ i f s o g. bundle_met_placed c k f s o g i)

bundle_placed : (c : List Rule) (flags : Text) (h : Held) → bundle (map placed c) flags h ≡ bundle c flags h
bundle_placed c flags h = bundle_met_placed c (length flags) flags h.skip plain (record h { skip = 0 })

-- ---- a word

option_word_placed : (o : Option Rule) (id word : Text) (h : Held) → option_word (option_map placed o) id word h ≡ option_word o id word h
option_word_placed None id word h = refl
option_word_placed (Some a) id word h = refl

plain_word_placed : (c : List Rule) (waiting : Waiting) (word : Text) (h : Held) → plain_word (map placed c) waiting word h ≡ plain_word c waiting word h
plain_word_placed c (option id) word h =
    ap (λ (p : Held × Waiting). (p.0, next p.1)) (ap (λ o. option_word o id word h) (by_id c id) ∙ option_word_placed (arg_by_id c id) id word h)
plain_word_placed c idle word h = refl
plain_word_placed c positional word h = refl

after_flag_placed : (c : List Rule) (waiting : Waiting) (word : Text) (h : Held) (o : Outcome)
    → after_flag (map placed c) waiting word h o ≡ after_flag c waiting word h o
after_flag_placed c waiting word h done = refl
after_flag_placed c waiting word h (waits id) = refl
after_flag_placed c waiting word h plain = plain_word_placed c waiting word h
after_flag_placed c waiting word h refused = plain_word_placed c waiting word h

after_met : (c : List Rule) (waiting : Waiting) (word : Text) (met met' : Held × Outcome) → met ≡ met'
    → after_flag (map placed c) waiting word met.0 met.1 ≡ after_flag c waiting word met'.0 met'.1
after_met c waiting word met met' e =
    ap (λ (m : Held × Outcome). after_flag (map placed c) waiting word m.0 m.1) e ∙ after_flag_placed c waiting word met'.0 met'.1

long_word_placed : (c : List Rule) (waiting : Waiting) (word name : Text) (v : Option Text) (h : Held)
    → long_word (map placed c) waiting word name v h ≡ long_word c waiting word name v h
long_word_placed c waiting word name v h = after_met c waiting word _ _
    (ap (λ o. long_met (map placed c) o v h) (by_long c name) ∙ long_met_placed c (arg_by_long c name) v h)

short_or_plain_placed : (c : List Rule) (waiting : Waiting) (word : Text) (flags : Option Text) (h : Held)
    → short_or_plain (map placed c) waiting word flags h ≡ short_or_plain c waiting word flags h
short_or_plain_placed c waiting word (Some flags) h = after_met c waiting word _ _ (bundle_placed c flags h)
short_or_plain_placed c waiting word None h = plain_word_placed c waiting word h

long_or_other_placed : (c : List Rule) (waiting : Waiting) (word : Text) (o : Option (Text × Option Text)) (h : Held)
    → long_or_other (map placed c) waiting word o h ≡ long_or_other c waiting word o h
long_or_other_placed c waiting word (Some p) h = long_word_placed c waiting word p.0 p.1 h
long_or_other_placed c waiting word None h = short_or_plain_placed c waiting word (short_of word) h

subcommand_or_other_placed : (c : List Rule) (name : Option Text) (waiting : Waiting) (position : ℕ) (word : Text) (h : Held)
    → subcommand_or_other (map placed c) name waiting position word h ≡ subcommand_or_other c name waiting position word h
subcommand_or_other_placed c (Some name) waiting position word h = refl
subcommand_or_other_placed c None waiting position word h =
    λ i. if bytes_eq word (45 ∷ 45 ∷ []) then (h, trailing position) else long_or_other_placed c waiting word (long_of word) h i

pub word_met_placed : (c : List Rule) (names : Names) (is_trailing : Bool) (waiting : Waiting) (position : ℕ) (word : Text) (h : Held)
    → word_met (map placed c) names is_trailing waiting position word h ≡ word_met c names is_trailing waiting position word h
word_met_placed c names is_trailing waiting position word h =
    λ i. if is_trailing then (h, value) else subcommand_or_other_placed c (subcommand_met names waiting word) waiting position word h i

-- ---- the walk

positional_held_placed : (c : List Rule) (a : Rule) (word : Text) (h : Held) → positional_held (map placed c) (placed a) word h ≡ positional_held c a word h
positional_held_placed c a word h = λ i. pushed a.id word (if is_pending a h.pending && takes_several a then h else settled_placed c h i)

to_positional_placed : (c : List Rule) (o : Option Rule) (word : Text) (w : Walk) (h : Held)
    → to_positional (map placed c) (option_map placed o) word w h ≡ to_positional c o word w h
to_positional_placed c None word w h = refl
to_positional_placed c (Some a) word w h = ap (λ (held : Held). record (to_positional c (Some a) word w h) { held = held }) (positional_held_placed c a word h)

after_step_placed : (c : List Rule) (word : Text) (w : Walk) (h : Held) (s : Step) → after_step (map placed c) word w h s ≡ after_step c word w h s
after_step_placed c word w h (next waiting) = refl
after_step_placed c word w h (trailing position) = refl
after_step_placed c word w h (subcommand name) = refl
after_step_placed c word w h value =
    ap (λ o. to_positional (map placed c) o word w h) (by_index c w.position) ∙ to_positional_placed c (arg_by_index c w.position) word w h

walked_from_placed : (c : List Rule) (names : Names) (stop : Option (Text × List Text)) (w : Walk) (word : Text)
    → walked_from (map placed c) names stop w word ≡ walked_from c names stop w word
walked_from_placed c names (Some p) w word = refl
walked_from_placed c names None w word =
    let met = word_met c names w.is_trailing w.waiting w.position word w.held in
    ap (λ (m : Held × Step). after_step (map placed c) word w m.0 m.1) (word_met_placed c names w.is_trailing w.waiting w.position word w.held)
    ∙ after_step_placed c word w met.0 met.1

pub walked_placed : (c : List Rule) (names : Names) (w : Walk) (word : Text) → walked (map placed c) names w word ≡ walked c names w word
unfolding walked
walked_placed c names w word = walked_from_placed c names w.stopped w word

pub walk_placed : (c : List Rule) (names : Names) (h : Held) (words : List Text) → walk (map placed c) names h words ≡ walk c names h words
walk_placed c names h words = λ i. fold (λ w word. walked_placed c names w word i) (walk_from h) words

pub with_default_placed : (rows : List Row) (a : Rule) → with_default rows (placed a) ≡ with_default rows a
with_default_placed rows a = λ i. if has_row a.id rows then rows else default_rows a.id (reading_placed a i) a.defaults rows

fold_placed : (rows : List Row) (c : List Rule) → fold with_default rows (map placed c) ≡ fold with_default rows c
fold_placed rows [] = refl
fold_placed rows (a ∷ c) = ap (λ r. fold with_default r (map placed c)) (with_default_placed rows a) ∙ fold_placed (with_default rows a) c

pub finished_placed : (c : List Rule) (h : Held) → finished (map placed c) h ≡ finished c h
finished_placed c h = ap (λ (s : Held). fold with_default s.rows (map placed c)) (settled_placed c h) ∙ fold_placed (settled c h).rows c

pub rows_after_placed : (c : List Rule) (names : Names) (words : List Text) → rows_after (map placed c) names words ≡ rows_after c names words
rows_after_placed c names words =
    ap (λ (w : Walk). finished (map placed c) w.held) (walk_placed c names nothing_held words)
    ∙ finished_placed c (walk c names nothing_held words).held
