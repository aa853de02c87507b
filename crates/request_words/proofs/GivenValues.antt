-- Where clap takes the words, each required option has a value that passed its parser.
use Rattle.std.proofs.Common.{◌≡◌, ◌⊎◌, ◌∙◌, ◌&&◌, ◌||◌, ◌<◌, ◌++◌, ℕ, Bool, List, [], ◌∷◌, length, drop, not, inl, inr, refl, sym, ap, subst, zero, suc, codes, true, false, true≢false, arith, nat_le}
use Rattle.std.specs.Prelude.{Option, Some, None, encode_utf8, slice_get, if◌then◌else◌, is_some, find, fold, option_and_then, slice_get}
use Rattle.std.specs.Option.{option_map_or}
use Rattle.std.specs.Str.{bytes_eq, chars}
use Rattle.std.proofs.lemmas.Bool.{leb-true}
use Rattle.std.proofs.lemmas.List.{length-append}
use Rattle.std.proofs.lemmas.Slice.Eq.{bytes_eq-Decides}
use Rattle.clap.specs.Lexer.{long_of, short_of}
use Rattle.clap.specs.Facts.{explicit_source, unwrap_or_range}
use Rattle.clap.specs.Values.{is_request, read_as}
use Rattle.clap.specs.Walk.{Held, Names, Outcome, Row, Rule, Step, Text, Waiting, Walk, action_of, after_flag, after_step, arg_by_id, arg_by_index, arg_by_long, arg_by_short, at_row, attached_value, bundle, bundle_met, bundle_step, done, finished, first_of, flag_met, idle, is_pending, long_met, long_or_other, more_values, next, nothing_held, one_of, option, option_met, option_word, plain, plain_word, positional, positional_held, pushed, reacted, reading_by, refused, row_text, settled, settled_rows, short_met, short_or_plain, subcommand, subcommand_met, subcommand_or_other, takes_several, takes_values, to_positional, trailing, used, used_as, used_by_id, value, values_or_missing, waits, walk, walk_from, walked, walked_from, with_default, with_values, without, word_met, default_rows, has_row}
use Rattle.clap.specs.Simple.{Shape}
use Rattle.clap.specs.Takes.{action_passes, bundle_passes, bundle_step_passes, flag_word_passes, flags_pass, is_given, level_passes, long_passes, option_passes, other_passes, positional_passes, react_passes, settle_passes, short_passes, step_passes, turn_passes, use_passes, value_passes, values_pass, walk_passes, word_passes}
use Rattle.clap.specs.declared.builder.action.ArgAction.{ArgAction}
use Rattle.clap.specs.declared.builder.action.ArgAction.TheVariants as action
use Rattle.clap.specs.declared.parser.matches.ValueSource.{ValueSource}
use Rattle.clap.specs.declared.parser.matches.ValueSource.TheVariants.{CommandLine, DefaultValue}
use Rattle.clap.proofs.WalkLemmas.{both}

-- ---- lists

abbrev pub Each : {X : Type 0} → (X → Type 0) → List X → Type 0
Each P [] = Unit {0}
Each P (x ∷ xs) = P x × Each P xs

each_found : {X : Type 0} (P : X → Type 0) (p : X → Bool) (xs : List X) → Each P xs → (x : X) → find p xs ≡ Some x → P x × (p x ≡ true)
each_found P p [] each x found = cc
each_found P p (y ∷ ys) each x found = go (p y) refl found (each_found P p ys each.1)
  where
    go : (t : Bool) → p y ≡ t → (if t then Some y else find p ys) ≡ Some x → ((z : _) → find p ys ≡ Some z → P z × (p z ≡ true)) → P x × (p x ≡ true)
    go true hit e later =
        let same : y ≡ x = cc in
        (subst P same each.0, subst (λ z. p z ≡ true) same hit)
    go false hit e later = later x e

passes_append : (a : Rule) (xs ys : List Text) → values_pass a xs ≡ true → values_pass a ys ≡ true → values_pass a (xs ++ ys) ≡ true
passes_append a [] ys e f = f
passes_append a (x ∷ xs) ys e f =
    let parts = both (value_passes a x) (values_pass a xs) e in
    rw parts.0 (passes_append a xs ys parts.1 f)

-- ---- rows

-- the row has values, which passed the argument's parser and are read by it
abbrev pub FitsBy : Rule → Row → Type 0
FitsBy a r = (0 < length r.values) × (values_pass a r.values ≡ true) × (r.reading ≡ reading_by a)

-- the argument that the row is of
abbrev pub Fits : List Rule → Row → Type 0
Fits c r = (a : Rule) → arg_by_id c r.id ≡ Some a → FitsBy a r

each_at_row : (P : Row → Type 0) (id : Text) (change : Row → List Row) (missing rows : List Row) → Each P rows → Each P missing
    → ((r : Row) → P r → bytes_eq r.id id ≡ true → Each P (change r)) → Each P (at_row id change missing rows)
each_at_row P id change missing [] each none changed = none
each_at_row P id change missing (r ∷ rs) each none changed =
    go (bytes_eq r.id id) refl (each_at_row P id change missing rs each.1 none changed)
  where
    appended : (xs ys : List Row) → Each P xs → Each P ys → Each P (xs ++ ys)
    appended [] ys e f = f
    appended (x ∷ xs) ys e f = (e.0, appended xs ys e.1 f)

    go : (t : Bool) → bytes_eq r.id id ≡ t → Each P (at_row id change missing rs) → Each P (if t then change r ++ rs else r ∷ at_row id change missing rs)
    go true hit later = appended (change r) rs (changed r each.0 hit) each.1
    go false hit later = (each.0, later)

module _ (c : List Rule) where
  -- the argument is the first with its id; it is set with one value or more, is a flag with a value for its use, or asks
  -- for a text
  abbrev pub IsOrdinary : Rule → Type 0
  IsOrdinary a = (arg_by_id c a.id ≡ Some a)
      × (((action_of a ≡ action.Set) × (0 < (unwrap_or_range a.range).start_inclusive))
      ⊎ (((action_of a ≡ action.SetTrue) × (0 < length a.missing)) ⊎ (is_request (action_of a) ≡ true)))

  abbrev pub Good : List Row → Type 0
  Good rows = Each (Fits c) rows

  with_values_fit : (a : Rule) (source : ValueSource) (values : List Text) (rows : List Row) → arg_by_id c a.id ≡ Some a → 0 < length values
      → values_pass a values ≡ true → Good rows → Good (with_values a.id (reading_by a) source values rows)
  with_values_fit a source values rows own some pass good =
      let is_own : (b : Rule) → arg_by_id c a.id ≡ Some b → a ≡ b = λ b e. let same : Some a ≡ Some b = sym own ∙ e in cc in
      each_at_row (Fits c) a.id (more_values source values) _ rows good
      ((λ b e. subst (λ (x : Rule). (0 < length values) × (values_pass x values ≡ true) × (reading_by a ≡ reading_by x)) (is_own b e) (some, pass, refl)), tt)
      (λ r fits hit.
      let id : r.id ≡ a.id = (bytes_eq-Decides r.id a.id).0 hit in
      let f = fits a (ap (arg_by_id c) id ∙ own) in (
        (λ b e.
            let same = is_own b (ap (arg_by_id c) (sym id) ∙ e) in
            subst (λ (x : Rule). (0 < length (r.values ++ values)) × (values_pass x (r.values ++ values) ≡ true) × (r.reading ≡ reading_by x)) same
            (omega (arith, length-append r.values values, f.0), passes_append a r.values values f.1 pass, f.2)),
        tt,
      ))

  set_fits : (a : Rule) (values : List Text) (rows : List Row) → arg_by_id c a.id ≡ Some a → 0 < length values → values_pass a values ≡ true → Good rows
      → Good (with_values a.id (reading_by a) CommandLine values (without a.id rows))
  set_fits a values rows own some pass good = with_values_fit a CommandLine values (without a.id rows) own some pass
      (each_at_row (Fits c) a.id (λ _. []) [] rows good tt (λ r fits hit. tt))

  -- ---- one use of an argument

  no_request : (x : ArgAction) (again : Bool) (a : Rule) (values : List Text) (rows : List Row) → is_request x ≡ true → action_passes x again a values rows ≡ true → ⊥
  no_request action.Set again a values rows e p = true≢false (sym e)
  no_request action.Append again a values rows e p = true≢false (sym e)
  no_request action.SetTrue again a values rows e p = true≢false (sym e)
  no_request action.SetFalse again a values rows e p = true≢false (sym e)
  no_request action.Count again a values rows e p = true≢false (sym e)
  no_request other again a values rows e p = true≢false (sym p)

  values_there : (a : Rule) (values : List Text) → 0 < (unwrap_or_range a.range).start_inclusive
      → nat_le (unwrap_or_range a.range).start_inclusive (length values) ≡ true → 0 < length (values_or_missing a values)
  values_there a [] least e = absurd (omega (arith, leb-true _ _ e))
  values_there a (v ∷ vs) least e = omega arith

  flag_there : (a : Rule) (values : List Text) → 0 < length a.missing → 0 < length (values_or_missing a values)
  flag_there a [] some = some
  flag_there a (v ∷ vs) some = omega arith

  used_fits : (again : Bool) (a : Rule) (values : List Text) (rows : List Row) → IsOrdinary a → use_passes again a values rows ≡ true → Good rows → Good (used a values rows)
  used_fits again a values rows ordinary pass good =
      let parts = both (nat_le (unwrap_or_range a.range).start_inclusive (length values)) _ pass in
      let acts = (both _ _ parts.1).1 in
      elim ordinary.1 [
        | inl set ↦
            let as_set : action_passes action.Set again a (values_or_missing a values) rows ≡ true =
            subst (λ (x : ArgAction). action_passes x again a (values_or_missing a values) rows ≡ true) set.0 acts in
            subst (λ (x : ArgAction). Good (used_as x a.id (reading_by a) (values_or_missing a values) rows)) (sym set.0)
            (set_fits a (values_or_missing a values) rows ordinary.0 (values_there a values set.1 parts.0) (both _ _ as_set).1 good)
        | inr (inl flag) ↦
            let as_set : action_passes action.SetTrue again a (values_or_missing a values) rows ≡ true =
            subst (λ (x : ArgAction). action_passes x again a (values_or_missing a values) rows ≡ true) flag.0 acts in
            subst (λ (x : ArgAction). Good (used_as x a.id (reading_by a) (values_or_missing a values) rows)) (sym flag.0)
            (set_fits a (values_or_missing a values) rows ordinary.0 (flag_there a values flag.1) (both _ _ as_set).1 good)
        | inr (inr request) ↦ absurd (no_request (action_of a) again a (values_or_missing a values) rows request acts)
      ]

  module _ (ordinary : Each IsOrdinary c) where
    found : (p : Rule → Bool) (a : Rule) → find p c ≡ Some a → IsOrdinary a
    found p a e = (each_found IsOrdinary p c ordinary a e).0

    settled_rows_fit : (again : Bool) (p : Option (Text × List Text)) (rows : List Row)
        → option_map_or (λ q. option_map_or (λ a. use_passes again a q.1 rows) (arg_by_id c q.0) true) p true ≡ true
        → Good rows → Good (settled_rows c p rows)
    settled_rows_fit again None rows pass good = good
    settled_rows_fit again (Some q) rows pass good = go (arg_by_id c q.0) refl pass
      where
        go : (o : Option Rule) → arg_by_id c q.0 ≡ o → option_map_or (λ a. use_passes again a q.1 rows) o true ≡ true → Good (used_by_id o q.1 rows)
        go None e p = good
        go (Some a) e p = used_fits again a q.1 rows (found _ a e) p good

    settled_fit : (again : Bool) (h : Held) → settle_passes c again h ≡ true → Good h.rows → Good (settled c h).rows
    settled_fit again h pass good = settled_rows_fit again h.pending h.rows pass good

    reacted_fit : (again : Bool) (a : Rule) (values : List Text) (h : Held) → IsOrdinary a → react_passes c again a values h ≡ true
        → Good h.rows → Good (reacted c a values h).rows
    reacted_fit again a values h own pass good =
        let parts = both (settle_passes c again h) _ pass in
        used_fits again a values (settled c h).rows own parts.1 (settled_fit again h parts.0 good)

    -- ---- flags and options

    option_fit : (again : Bool) (a : Rule) (v : Option Text) (h : Held) → IsOrdinary a → option_passes c again a v h ≡ true
        → Good h.rows → Good (option_met c a v h).0.rows
    option_fit again a (Some v) h own pass good = reacted_fit again a (v ∷ []) h own pass good
    option_fit again a None h own pass good = settled_fit again h pass good

    flag_fit : (again : Bool) (a : Rule) (v : Option Text) (h : Held) → IsOrdinary a → (not (is_some v) && react_passes c again a [] h) ≡ true
        → Good h.rows → Good (flag_met c a v h).0.rows
    flag_fit again a (Some v) h own pass good = good
    flag_fit again a None h own pass good = reacted_fit again a [] h own pass good

    long_fit : (again : Bool) (o : Option Rule) (v : Option Text) (h : Held) → ((a : Rule) → o ≡ Some a → IsOrdinary a) → long_passes c again o v h ≡ true
        → Good h.rows → Good (long_met c o v h).0.rows
    long_fit again None v h own pass good = good
    long_fit again (Some a) v h own pass good = go (takes_values a) pass
      where
        go : (t : Bool) → (if t then option_passes c again a v h else (not (is_some v) && react_passes c again a [] h)) ≡ true
            → Good (if t then option_met c a v h else flag_met c a v h).0.rows
        go true p = option_fit again a v h (own a refl) p good
        go false p = flag_fit again a v h (own a refl) p good

    short_fit : (again : Bool) (o : Option Rule) (rest : Text) (h : Held) (pass_on : Held → Bool) (later : Held → Held × Outcome)
        → ((a : Rule) → o ≡ Some a → IsOrdinary a) → ((g : Held) → pass_on g ≡ true → Good g.rows → Good (later g).0.rows)
        → short_passes c again o rest h pass_on ≡ true → Good h.rows → Good (short_met c o rest h later).0.rows
    short_fit again None rest h pass_on later own fits pass good = good
    short_fit again (Some a) rest h pass_on later own fits pass good = go (takes_values a) pass
      where
        go : (t : Bool)
            → (if t then option_passes c again a (attached_value rest) h else (react_passes c again a [] h && pass_on (reacted c a [] h))) ≡ true
            → Good (if t then option_met c a (attached_value rest) h else later (reacted c a [] h)).0.rows
        go true p = option_fit again a (attached_value rest) h (own a refl) p good
        go false p =
            let parts = both (react_passes c again a [] h) _ p in
            fits (reacted c a [] h) parts.1 (reacted_fit again a [] h (own a refl) parts.0 good)

    step_fit : (again : Bool) (o : Option ℕ) (flags : Text) (skip : ℕ) (so_far : Outcome) (h : Held) (pass_on : Text → ℕ → Held → Bool)
        (later : Text → ℕ → Outcome → Held → Held × Outcome)
        → ((f : Text) (s : ℕ) (x : Outcome) (g : Held) → pass_on f s g ≡ true → Good g.rows → Good (later f s x g).0.rows)
        → bundle_step_passes c again o flags skip h pass_on ≡ true → Good h.rows → Good (bundle_step c o flags skip so_far h later).0.rows
    step_fit again None flags skip so_far h pass_on later fits pass good = good
    step_fit again (Some x) flags zero so_far h pass_on later fits pass good =
        let rest = drop (length (encode_utf8 x)) flags in
        short_fit again (arg_by_short c x) rest h (pass_on rest 0) (later rest 0 done) (λ a e. found _ a e) (fits rest 0 done) pass good
    step_fit again (Some x) flags (suc skip) so_far h pass_on later fits pass good = fits (drop (length (encode_utf8 x)) flags) skip so_far h pass good

    flags_fit : (again : Bool) (k : ℕ) (flags : Text) (skip : ℕ) (so_far : Outcome) (h : Held) → flags_pass c again k flags skip h ≡ true
        → Good h.rows → Good (bundle_met c k flags skip so_far h).0.rows
    unfolding flags_pass bundle_met
    flags_fit again zero flags skip so_far h pass good = good
    flags_fit again (suc k) flags skip so_far h pass good =
        step_fit again (slice_get (chars flags) 0) flags skip so_far h (flags_pass c again k) (bundle_met c k)
        (λ f s x g. flags_fit again k f s x g) pass good

    -- ---- a word

    option_word_fit : (o : Option Rule) (id word : Text) (h : Held) → Good h.rows → Good (option_word o id word h).0.rows
    option_word_fit None id word h good = good
    option_word_fit (Some a) id word h good = good

    plain_word_fit : (waiting : Waiting) (word : Text) (h : Held) → Good h.rows → Good (plain_word c waiting word h).0.rows
    plain_word_fit (option id) word h good = option_word_fit (arg_by_id c id) id word h good
    plain_word_fit idle word h good = good
    plain_word_fit positional word h good = good

    after_flag_fit : (waiting : Waiting) (word : Text) (h : Held) (o : Outcome) → Good h.rows → Good (after_flag c waiting word h o).0.rows
    after_flag_fit waiting word h done good = good
    after_flag_fit waiting word h (waits id) good = good
    after_flag_fit waiting word h plain good = plain_word_fit waiting word h good
    after_flag_fit waiting word h refused good = plain_word_fit waiting word h good

    short_or_plain_fit : (again : Bool) (waiting : Waiting) (word : Text) (o : Option Text) (h : Held)
        → option_map_or (λ flags. bundle_passes c again flags h) o true ≡ true → Good h.rows → Good (short_or_plain c waiting word o h).0.rows
    short_or_plain_fit again waiting word None h pass good = plain_word_fit waiting word h good
    short_or_plain_fit again waiting word (Some flags) h pass good =
        after_flag_fit waiting word (bundle c flags h).0 (bundle c flags h).1
        (flags_fit again (length flags) flags h.skip plain (record h { skip = 0 }) pass good)

    long_or_other_fit : (again : Bool) (waiting : Waiting) (word : Text) (o : Option (Text × Option Text)) (h : Held)
        → flag_word_passes c again o word h ≡ true → Good h.rows → Good (long_or_other c waiting word o h).0.rows
    long_or_other_fit again waiting word (Some p) h pass good =
        let met = long_met c (arg_by_long c p.0) p.1 h in
        after_flag_fit waiting word met.0 met.1 (long_fit again (arg_by_long c p.0) p.1 h (λ a e. found _ a e) pass good)
    long_or_other_fit again waiting word None h pass good = short_or_plain_fit again waiting word (short_of word) h pass good

-- ---- the walk

module _ (s : Shape) (ordinary : Each (IsOrdinary s.rules) s.rules) where
  other_fit : (name : Option Text) (waiting : Waiting) (position : ℕ) (word : Text) (h : Held) → other_passes s name word h ≡ true
      → Good s.rules h.rows → Good s.rules (subcommand_or_other s.rules name waiting position word h).0.rows
  other_fit (Some name) waiting position word h pass good = good
  other_fit None waiting position word h pass good = go (bytes_eq word (45 ∷ 45 ∷ [])) pass
    where
      go : (t : Bool) → (t || flag_word_passes s.rules s.args_override_self (long_of word) word h) ≡ true
          → Good s.rules (if t then (h, trailing position) else long_or_other s.rules waiting word (long_of word) h).0.rows
      go true p = good
      go false p = long_or_other_fit s.rules ordinary s.args_override_self waiting word (long_of word) h p good

  word_fit : (names : Names) (is_trailing : Bool) (waiting : Waiting) (position : ℕ) (word : Text) (h : Held)
      → word_passes s names is_trailing waiting word h ≡ true → Good s.rules h.rows
      → Good s.rules (word_met s.rules names is_trailing waiting position word h).0.rows
  word_fit names true waiting position word h pass good = good
  word_fit names false waiting position word h pass good = other_fit (subcommand_met names waiting word) waiting position word h pass good

  positional_fit : (a : Rule) (word : Text) (h : Held) → positional_passes s.rules s.args_override_self a h ≡ true
      → Good s.rules h.rows → Good s.rules (positional_held s.rules a word h).rows
  positional_fit a word h pass good = go (is_pending a h.pending && takes_several a) pass
    where
      go : (t : Bool) → (t || settle_passes s.rules s.args_override_self h) ≡ true
          → Good s.rules (pushed a.id word (if t then h else settled s.rules h)).rows
      go true p = good
      go false p = settled_fit s.rules ordinary s.args_override_self h p good

  to_positional_fit : (o : Option Rule) (word : Text) (w : Walk) (h : Held)
      → option_map_or (λ a. positional_passes s.rules s.args_override_self a h) o false ≡ true
      → Good s.rules h.rows → Good s.rules (to_positional s.rules o word w h).held.rows
  to_positional_fit None word w h pass good = good
  to_positional_fit (Some a) word w h pass good = positional_fit a word h pass good

  after_step_fit : (word : Text) (w : Walk) (h : Held) (x : Step) → step_passes s w.position h x ≡ true
      → Good s.rules h.rows → Good s.rules (after_step s.rules word w h x).held.rows
  after_step_fit word w h (next waiting) pass good = good
  after_step_fit word w h (trailing position) pass good = good
  after_step_fit word w h (subcommand name) pass good = good
  after_step_fit word w h value pass good = to_positional_fit (arg_by_index s.rules w.position) word w h pass good

  turn_fit : (names : Names) (w : Walk) (word : Text) → turn_passes s names w word ≡ true → Good s.rules w.held.rows
      → Good s.rules (walked s.rules names w word).held.rows
  unfolding walked
  turn_fit names w word pass good = go w.stopped pass
    where
      go : (stop : Option (Text × List Text))
          → (is_some stop || (word_passes s names w.is_trailing w.waiting word w.held
          && step_passes s w.position (word_met s.rules names w.is_trailing w.waiting w.position word w.held).0
          (word_met s.rules names w.is_trailing w.waiting w.position word w.held).1)) ≡ true
          → Good s.rules (walked_from s.rules names stop w word).held.rows
      go (Some p) e = good
      go None e =
          let m = word_met s.rules names w.is_trailing w.waiting w.position word w.held in
          let parts = both (word_passes s names w.is_trailing w.waiting word w.held) _ e in
          after_step_fit word w m.0 m.1 parts.1 (word_fit names w.is_trailing w.waiting w.position word w.held parts.0 good)

  walk_fit : (names : Names) (w : Walk) (words : List Text) → walk_passes s names w words ≡ true → Good s.rules w.held.rows
      → Good s.rules (fold (walked s.rules names) w words).held.rows
  unfolding walk_passes
  walk_fit names w [] pass good = good
  walk_fit names w (word ∷ rest) pass good =
      let parts = both (turn_passes s names w word) _ pass in
      walk_fit names (walked s.rules names w word) rest parts.1 (turn_fit names w word parts.0 good)

-- ---- after the walk

module _ (c : List Rule) where
  default_fits : (a : Rule) (values : List Text) (rows : List Row) → arg_by_id c a.id ≡ Some a → values_pass a values ≡ true → Good c rows
      → Good c (default_rows a.id (reading_by a) values rows)
  default_fits a [] rows own pass good = good
  default_fits a (v ∷ vs) rows own pass good = with_values_fit c a DefaultValue (v ∷ vs) rows own (omega arith) pass good

  with_default_fits : (a : Rule) (rows : List Row) → arg_by_id c a.id ≡ Some a → values_pass a a.defaults ≡ true → Good c rows → Good c (with_default rows a)
  with_default_fits a rows own pass good = go (has_row a.id rows)
    where
      go : (t : Bool) → Good c (if t then rows else default_rows a.id (reading_by a) a.defaults rows)
      go true = good
      go false = default_fits a a.defaults rows own pass good

  defaults_fit : (rules : List Rule) (rows : List Row) → Each (λ (a : Rule). arg_by_id c a.id ≡ Some a) rules
      → Each (λ (a : Rule). values_pass a a.defaults ≡ true) rules → Good c rows → Good c (fold with_default rows rules)
  defaults_fit [] rows own pass good = good
  defaults_fit (a ∷ rules) rows own pass good =
      defaults_fit rules (with_default rows a) own.1 pass.1 (with_default_fits a rows own.0 pass.0 good)

own_ids : (c rules : List Rule) → Each (IsOrdinary c) rules → Each (λ (a : Rule). arg_by_id c a.id ≡ Some a) rules
own_ids c [] each = tt
own_ids c (a ∷ rules) each = (each.0.0, own_ids c rules each.1)

-- a level that passes leaves rows that fit
pub level_fit : (s : Shape) (names : Names) (words : List Text) (has : Bool) → Each (IsOrdinary s.rules) s.rules
    → Each (λ (a : Rule). values_pass a a.defaults ≡ true) s.rules → level_passes s names nothing_held words has ≡ true
    → Good s.rules (finished s.rules (walk s.rules names nothing_held words).held)
level_fit s names words has ordinary defaults pass =
    let end = (walk s.rules names nothing_held words).held in
    let parts = both (walk_passes s names (walk_from nothing_held) words) _ pass in
    let settles = (both (settle_passes s.rules s.args_override_self end) _ parts.1).0 in
    defaults_fit s.rules s.rules (settled s.rules end).rows (own_ids s.rules s.rules ordinary) defaults
    (settled_fit s.rules ordinary s.args_override_self end settles (walk_fit s ordinary names (walk_from nothing_held) words parts.0 tt))

-- an argument that was given has a value that passed, and the getters read it
pub given_value : (c : List Rule) (a : Rule) (rows : List Row) → Good c rows → arg_by_id c a.id ≡ Some a → is_given a.id rows ≡ true
    → (v : Text) × (value_passes a v ≡ true) × (first_of a.id rows ≡ Some v) × (one_of a.id rows ≡ Some (read_as (reading_by a) v))
given_value c a rows good own given = go (find (λ r. bytes_eq r.id a.id) rows) refl given
  where
    read : (r : Row) (values : List Text) → r.values ≡ values → FitsBy a r
        → (v : Text) × (value_passes a v ≡ true) × (slice_get r.values 0 ≡ Some v) × (row_text r ≡ Some (read_as (reading_by a) v))
    read r [] is fits =
        let some : 0 < length {A = Text} [] = subst (λ vs. 0 < length vs) is fits.0 in
        absurd (omega arith)
    read r (v ∷ vs) is fits =
        let passes = both (value_passes a v) (values_pass a vs) (subst (λ xs. values_pass a xs ≡ true) is fits.1) in
        (v, passes.0, rw is refl, rw (is, fits.2) refl)

    go : (o : Option Row) → find (λ r. bytes_eq r.id a.id) rows ≡ o → option_map_or (λ (r : Row). explicit_source r.source) o false ≡ true
        → (v : Text) × (value_passes a v ≡ true) × (first_of a.id rows ≡ Some v) × (one_of a.id rows ≡ Some (read_as (reading_by a) v))
    go None e is = absurd (true≢false (sym is))
    go (Some r) e is =
        let there = each_found (Fits c) (λ (x : Row). bytes_eq x.id a.id) rows good r e in
        let id : r.id ≡ a.id = (bytes_eq-Decides r.id a.id).0 there.1 in
        let got = read r r.values refl (there.0 a (ap (arg_by_id c) id ∙ own)) in
        (got.0, got.1, ap (option_and_then (λ (x : Row). slice_get x.values 0)) e ∙ got.2, ap (option_and_then row_text) e ∙ got.3)

-- an argument has no value, or one that passed
pub any_value : (c : List Rule) (a : Rule) (rows : List Row) → Good c rows → arg_by_id c a.id ≡ Some a
    → (one_of a.id rows ≡ None) ⊎ ((v : Text) × (value_passes a v ≡ true) × (one_of a.id rows ≡ Some (read_as (reading_by a) v)))
any_value c a rows good own = go (find (λ r. bytes_eq r.id a.id) rows) refl
  where
    read : (r : Row) (values : List Text) → r.values ≡ values → FitsBy a r → (v : Text) × (value_passes a v ≡ true) × (row_text r ≡ Some (read_as (reading_by a) v))
    read r [] is fits =
        let some : 0 < length {A = Text} [] = subst (λ vs. 0 < length vs) is fits.0 in
        absurd (omega arith)
    read r (v ∷ vs) is fits =
        let passes = both (value_passes a v) (values_pass a vs) (subst (λ xs. values_pass a xs ≡ true) is fits.1) in
        (v, passes.0, rw (is, fits.2) refl)

    go : (o : Option Row) → find (λ r. bytes_eq r.id a.id) rows ≡ o
        → (one_of a.id rows ≡ None) ⊎ ((v : Text) × (value_passes a v ≡ true) × (one_of a.id rows ≡ Some (read_as (reading_by a) v)))
    go None e = inl (ap (option_and_then row_text) e)
    go (Some r) e =
        let there = each_found (Fits c) (λ (x : Row). bytes_eq x.id a.id) rows good r e in
        let id : r.id ≡ a.id = (bytes_eq-Decides r.id a.id).0 there.1 in
        let got = read r r.values refl (there.0 a (ap (arg_by_id c) id ∙ own)) in
        inr (got.0, got.1, ap (option_and_then row_text) e ∙ got.2)

-- ---- the subcommand at which a walk stops

abbrev is_no_help : Step → Bool
is_no_help (subcommand name) = not (bytes_eq name (codes "help"))
is_no_help _ = true

-- the walk stands at no subcommand, or at one that is not `help`
abbrev pub stops_well : Walk → Bool
stops_well w = option_map_or (λ p. not (bytes_eq p.0 (codes "help"))) w.stopped true

plain_no_help : (c : List Rule) (waiting : Waiting) (word : Text) (h : Held) → is_no_help (plain_word c waiting word h).1 ≡ true
plain_no_help c (option id) word h = refl
plain_no_help c idle word h = refl
plain_no_help c positional word h = refl

after_no_help : (c : List Rule) (waiting : Waiting) (word : Text) (h : Held) (o : Outcome) → is_no_help (after_flag c waiting word h o).1 ≡ true
after_no_help c waiting word h done = refl
after_no_help c waiting word h (waits id) = refl
after_no_help c waiting word h plain = plain_no_help c waiting word h
after_no_help c waiting word h refused = plain_no_help c waiting word h

short_no_help : (c : List Rule) (waiting : Waiting) (word : Text) (o : Option Text) (h : Held) → is_no_help (short_or_plain c waiting word o h).1 ≡ true
short_no_help c waiting word None h = plain_no_help c waiting word h
short_no_help c waiting word (Some flags) h = after_no_help c waiting word (bundle c flags h).0 (bundle c flags h).1

long_no_help : (c : List Rule) (waiting : Waiting) (word : Text) (o : Option (Text × Option Text)) (h : Held) → is_no_help (long_or_other c waiting word o h).1 ≡ true
long_no_help c waiting word None h = short_no_help c waiting word (short_of word) h
long_no_help c waiting word (Some p) h = after_no_help c waiting word (long_met c (arg_by_long c p.0) p.1 h).0 (long_met c (arg_by_long c p.0) p.1 h).1

pub or_false : (a : Bool) → (a || false) ≡ true → a ≡ true
or_false true e = refl
or_false false e = e

module _ (s : Shape) (help : s.disable_help_subcommand ≡ false) where
  word_no_help : (names : Names) (is_trailing : Bool) (waiting : Waiting) (position : ℕ) (word : Text) (h : Held)
      → word_passes s names is_trailing waiting word h ≡ true → is_no_help (word_met s.rules names is_trailing waiting position word h).1 ≡ true
  word_no_help names true waiting position word h pass = refl
  word_no_help names false waiting position word h pass = go (subcommand_met names waiting word) pass
    where
      dashes : (t : Bool) → is_no_help (if t then (h, trailing position) else long_or_other s.rules waiting word (long_of word) h).1 ≡ true
      dashes true = refl
      dashes false = long_no_help s.rules waiting word (long_of word) h

      go : (o : Option Text) → other_passes s o word h ≡ true → is_no_help (subcommand_or_other s.rules o waiting position word h).1 ≡ true
      go (Some name) e = or_false (not (bytes_eq name (codes "help"))) (rw help at e)
      go None e = dashes (bytes_eq word (45 ∷ 45 ∷ []))

  positional_stops : (o : Option Rule) (word : Text) (w : Walk) (h : Held) → w.stopped ≡ None → stops_well (to_positional s.rules o word w h) ≡ true
  positional_stops None word w h none = rw none refl
  positional_stops (Some a) word w h none = refl

  after_stops : (word : Text) (w : Walk) (h : Held) (x : Step) → w.stopped ≡ None → is_no_help x ≡ true → stops_well (after_step s.rules word w h x) ≡ true
  after_stops word w h (next waiting) none e = rw none refl
  after_stops word w h (trailing position) none e = rw none refl
  after_stops word w h (subcommand name) none e = e
  after_stops word w h value none e = positional_stops (arg_by_index s.rules w.position) word w h none

  turn_stops : (names : Names) (w : Walk) (word : Text) → turn_passes s names w word ≡ true → stops_well w ≡ true → stops_well (walked s.rules names w word) ≡ true
  unfolding walked
  turn_stops names w word pass well = go w.stopped refl pass well
    where
      go : (stop : Option (Text × List Text)) → w.stopped ≡ stop
          → (is_some stop || (word_passes s names w.is_trailing w.waiting word w.held
          && step_passes s w.position (word_met s.rules names w.is_trailing w.waiting w.position word w.held).0
          (word_met s.rules names w.is_trailing w.waiting w.position word w.held).1)) ≡ true
          → option_map_or (λ p. not (bytes_eq p.0 (codes "help"))) stop true ≡ true
          → stops_well (walked_from s.rules names stop w word) ≡ true
      go (Some p) is e f = f
      go None is e f =
          let m = word_met s.rules names w.is_trailing w.waiting w.position word w.held in
          let parts = both (word_passes s names w.is_trailing w.waiting word w.held) _ e in
          after_stops word w m.0 m.1 is (word_no_help names w.is_trailing w.waiting w.position word w.held parts.0)

  pub walk_stops : (names : Names) (w : Walk) (words : List Text) → walk_passes s names w words ≡ true → stops_well w ≡ true
      → stops_well (fold (walked s.rules names) w words) ≡ true
  unfolding walk_passes
  walk_stops names w [] pass well = well
  walk_stops names w (word ∷ rest) pass well =
      let parts = both (turn_passes s names w word) _ pass in
      walk_stops names (walked s.rules names w word) rest parts.1 (turn_stops names w word parts.0 well)
