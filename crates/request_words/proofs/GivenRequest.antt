-- Where clap takes the words of the program, they name a command, with the values that it requires.
use Rattle.std.proofs.Common.{◌≡◌, ◌⊎◌, ℕ, zero, suc, subst, ◌∙◌, ◌<◌, ◌^◌, Bool, List, [], ◌∷◌, map, not, inl, inr, refl, sym, ap, codes, true, false, true≢false, arith}
use Rattle.std.specs.Prelude.{◌||◌, Option, Some, None, cond, find, if◌then◌else◌, is_some, option_map, pos}
use Rattle.std.specs.Borrow.{Bor}
use Rattle.std.specs.List.{list_all, list_any}
use Rattle.std.specs.Str.{bytes_eq}
use Rattle.std.specs.Option.{IsSome, option_map_or}
use Rattle.std.proofs.lemmas.Cmp.{nat_list_eq_equiv}
use Rattle.std.proofs.lemmas.Slice.Eq.{bytes_eq-Decides}
use Rattle.clap.specs.Words.{Row, Rule, Shape, Text, fault_of, subcommand_of, takes}
use Rattle.clap.specs.Walk.{answers_to, arg_by_id, finished, one_of, reading_by, is_empty, nothing_held, first_of, rows_after, stop_after, walk, walk_from}
use Rattle.clap.specs.Simple.{argument_words, built, entered, label_of, names_of, new_shape, rows_at, new_rule}
use Rattle.clap.specs.Values.{read_as, reading_of}
use Rattle.clap.specs.ValueTests.{accepts}
use Rattle.clap.specs.Facts.{parser_of_value}
use Rattle.clap.specs.Takes.{default_passes, value_passes, entered_passes, is_given, is_valid, level_passes, settle_passes, values_pass, walk_passes}
use Rattle.clap.specs.declared.builder.value_parser.ValueParser.TheVariants as parser
use Rattle.clap.proofs.ValueTestLemmas.{accepts-Accepts}
use Rattle.clap.proofs.WalkLemmas.{both, list_any-map}
use Rattle.ballot_base.specs.Limits.{most_members}
use Rattle.group_check.specs.Names.{properties, property_name}
use Rattle.seat_share.specs.Limits.{most_seats}
use Rattle.seat_share.specs.Names.{methods, method_name}
use Rattle.request_words.specs.Limits.{most_limit, most_way_number}
use Rattle.request_words.specs.Names.{rules, rule_name}
use Rattle.request_words.specs.Words.{shown_names, program, shown}
use Rattle.request_words.specs.Steps.Values.{HasCheckValues, HasElectValues, HasName, HasNumberUpTo, HasShareValues, HasValues, IsCount, IsFlag}
use Rattle.request_words.proofs.GivenValues.{Each, Good, IsOrdinary, any_value, given_value, level_fit, or_false, walk_stops}
use Rattle.request_words.proofs.Refusals.{taken_none}

-- clap takes the program's words exactly where it has no refusal
pub program_taken : (words : List Text) → takes program words ≡ is_empty (fault_of program words)
program_taken words = taken_none program words refl refl refl

-- ---- the commands as they are built

abbrev shape_at : List Shape → ℕ → Shape
shape_at [] i = new_shape []
shape_at (s ∷ rest) zero = s
shape_at (s ∷ rest) (suc i) = shape_at rest i

abbrev elect : Shape
elect = shape_at (built program).subs 0

abbrev check : Shape
check = shape_at (built program).subs 1

abbrev share : Shape
share = shape_at (built program).subs 2

-- `help`, which clap adds
abbrev help : Shape
help = shape_at (built program).subs 3

-- an argument by its place
abbrev at_place : List Rule → ℕ → Rule
at_place [] i = new_rule []
at_place (a ∷ rest) zero = a
at_place (a ∷ rest) (suc i) = at_place rest i

-- ---- a value that passed its parser

-- an option for a number has none, or one in its range
count_is : (most : ℕ) → most < 2 ^ 32 → (a : Rule) (rows : List Row) → a.parser ≡ Some (parser.Signed (pos 1) (pos most))
    → (one_of a.id rows ≡ None) ⊎ ((v : Text) × (value_passes a v ≡ true) × (one_of a.id rows ≡ Some (read_as (reading_by a) v)))
    → IsCount (one_of a.id rows)
count_is most small a rows is (inl none) = subst IsCount (sym none) tt
count_is most small a rows is (inr (v, pass, one)) =
    subst IsCount (sym (one ∙ ap (λ p. Some (read_as (reading_of (parser_of_value p)) v)) is)) (
      v,
      most,
      refl,
      small,
      accepts-Accepts a.ignore_case (parser.Signed (pos 1) (pos most)) v (subst (λ p. accepts a.ignore_case (parser_of_value p) v ≡ true) is pass),
    )

-- the text of a truth value
flag_text : (v : Text) → (bytes_eq v (codes "true") || bytes_eq v (codes "false")) ≡ true → IsFlag (Some v)
flag_text v pass = go (bytes_eq v (codes "true")) refl pass
  where
    go : (t : Bool) → bytes_eq v (codes "true") ≡ t → (t || bytes_eq v (codes "false")) ≡ true → IsFlag (Some v)
    go true is e = inl ((bytes_eq-Decides v (codes "true")).0 is)
    go false is e = inr ((bytes_eq-Decides v (codes "false")).0 e)

-- a flag has no value, or the text of a truth value
flag_is : (a : Rule) (rows : List Row) → a.parser ≡ Some parser.Bool
    → (one_of a.id rows ≡ None) ⊎ ((v : Text) × (value_passes a v ≡ true) × (one_of a.id rows ≡ Some (read_as (reading_by a) v)))
    → IsFlag (one_of a.id rows)
flag_is a rows is (inl none) = subst IsFlag (sym none) tt
flag_is a rows is (inr (v, pass, one)) =
    subst IsFlag (sym (one ∙ ap (λ p. Some (read_as (reading_of (parser_of_value p)) v)) is))
    (flag_text v (subst (λ p. accepts a.ignore_case (parser_of_value p) v ≡ true) is pass))

-- a test finds an item exactly where one passes
is_some-find : {X : Type 0} (passes : X → Bool) (items : List X) → is_some (find passes items) ≡ list_any passes items
is_some-find passes [] = refl
is_some-find passes (item ∷ items) = by (passes item) (is_some-find passes items)
  where
    by : (b : Bool) → is_some (find passes items) ≡ list_any passes items
        → is_some (cond b (Some item) (find passes items)) ≡ b || list_any passes items
    by true rest = refl
    by false rest = rest

-- a text that is among the names of some items finds one of them
named_there : {X : Type 0} (name_of : X → Text) (items : List X) (text : Text)
    → list_any (λ (name : Bor Text). bytes_eq name.now text) (map shown (map name_of items)) ≡ true
    → IsSome (find (λ item. bytes_eq text (name_of item)) items)
named_there name_of items text passes =
    is_some-find (λ item. bytes_eq text (name_of item)) items
    ∙ (λ i. list_any (λ item. nat_list_eq_equiv.symm text (name_of item) i) items)
    ∙ list_any-map (λ name. bytes_eq name text) name_of items
    ∙ list_any-map (λ (name : Bor Text). bytes_eq name.now text) shown (map name_of items) ∙ passes

-- a required option has a name of a list
name_given : {X : Type 0} (c : List Rule) (a : Rule) (name_of : X → Text) (items : List X) (rows : List Row) → Good c rows
    → arg_by_id c a.id ≡ Some a → a.parser ≡ Some (parser.Names (shown_names (map name_of items))) → a.ignore_case ≡ false
    → is_given a.id rows ≡ true → HasName a.id (λ name. find (λ item. bytes_eq name (name_of item)) items) rows
name_given c a name_of items rows good own is case given =
    let v = given_value c a rows good own given in
    let pass : accepts false (parser_of_value (Some (parser.Names (shown_names (map name_of items))))) v.0 ≡ true =
    subst (λ p. accepts false (parser_of_value p) v.0 ≡ true) is
    (subst (λ b. accepts b (parser_of_value a.parser) v.0 ≡ true) case v.1) in
    record { text = v.0; given = v.2; known = named_there name_of items v.0 pass }

-- a required option has a number in its range
number_given : (c : List Rule) (a : Rule) (most : ℕ) (rows : List Row) → Good c rows → arg_by_id c a.id ≡ Some a
    → a.parser ≡ Some (parser.Signed (pos 1) (pos most)) → is_given a.id rows ≡ true → HasNumberUpTo a.id most rows
number_given c a most rows good own is given =
    let v = given_value c a rows good own given in
    record {
      text = v.0;
      given = v.3 ∙ ap (λ p. Some (read_as (reading_of (parser_of_value p)) v.0)) is;
      in_range = accepts-Accepts a.ignore_case (parser.Signed (pos 1) (pos most)) v.0
          (subst (λ p. accepts a.ignore_case (parser_of_value p) v.0 ≡ true) is v.1);
    }

-- a required option has a text
text_given : (c : List Rule) (a : Rule) (rows : List Row) → Good c rows → arg_by_id c a.id ≡ Some a → is_given a.id rows ≡ true → IsSome (first_of a.id rows)
text_given c a rows good own given = ap is_some (given_value c a rows good own given).2

-- an option for a count
count_given : (c : List Rule) (a : Rule) (most : ℕ) (rows : List Row) → Good c rows → arg_by_id c a.id ≡ Some a → most < 2 ^ 32
    → a.parser ≡ Some (parser.Signed (pos 1) (pos most)) → IsCount (one_of a.id rows)
count_given c a most rows good own small is = count_is most small a rows is (any_value c a rows good own)

-- a flag
flag_given : (c : List Rule) (a : Rule) (rows : List Row) → Good c rows → arg_by_id c a.id ≡ Some a → a.parser ≡ Some parser.Bool → IsFlag (one_of a.id rows)
flag_given c a rows good own is = flag_is a rows is (any_value c a rows good own)

-- ---- a level that passes

level_given : (s : Shape) (words : List Text) → Each (IsOrdinary s.rules) s.rules → Each (λ (a : Rule). values_pass a a.defaults ≡ true) s.rules
    → level_passes s [] nothing_held words false ≡ true → Good s.rules (rows_after s.rules [] words) × (is_valid s (rows_after s.rules [] words) false ≡ true)
level_given s words ordinary defaults pass =
    let end = (walk s.rules [] nothing_held words).held in
    let walks = both (walk_passes s [] (walk_from nothing_held) words) _ pass in
    let settles = both (settle_passes s.rules s.args_override_self end) _ walks.1 in
    (level_fit s [] words false ordinary defaults pass, (both (list_all default_passes s.rules) _ settles.1).1)

one : 0 < 1
one = omega arith

-- a count fits 32 bits
small_count : most_way_number < 2 ^ 32
small_count = omega arith

small_limit : most_limit < 2 ^ 32
small_limit = omega arith

elect_values : (words : List Text) → level_passes elect [] nothing_held words false ≡ true → HasElectValues (rows_after elect.rules [] words)
elect_values words pass =
    let rows = rows_after elect.rules [] words in
    let level = level_given elect words
    ((refl, inl (refl, one)), ((refl, inl (refl, one)), ((refl, inl (refl, one)), ((refl, inl (refl, one)), ((refl, inl (refl, one)), ((refl, inl (refl, one)), ((refl, inl (refl, one)), ((refl, inl (refl, one)), ((refl, inr (inl (refl, one))), ((refl, inl (refl, one)), ((refl, inr (inr refl)), tt)))))))))))
    (refl, (refl, (refl, (refl, (refl, (refl, (refl, (refl, (refl, (refl, (refl, tt))))))))))) pass in
    let given = both (is_given (codes "rule") rows) _ level.1 in
    let given_size = (both (is_given (codes "size") rows) _ given.1).0 in (
      name_given elect.rules (at_place elect.rules 0) rule_name rules rows level.0 refl refl refl given.0,
      number_given elect.rules (at_place elect.rules 1) most_members rows level.0 refl refl given_size,
      count_given elect.rules (at_place elect.rules 3) most_limit rows level.0 refl small_limit refl,
      record {
        category = count_given elect.rules (at_place elect.rules 5) most_way_number rows level.0 refl small_count refl;
        set_size = count_given elect.rules (at_place elect.rules 6) most_way_number rows level.0 refl small_count refl;
        classes = count_given elect.rules (at_place elect.rules 7) most_way_number rows level.0 refl small_count refl;
        names = flag_given elect.rules (at_place elect.rules 8) rows level.0 refl refl;
      },
    )

check_values : (words : List Text) → level_passes check [] nothing_held words false ≡ true → HasCheckValues (rows_after check.rules [] words)
check_values words pass =
    let rows = rows_after check.rules [] words in
    let level = level_given check words
    ((refl, inl (refl, one)), ((refl, inl (refl, one)), ((refl, inl (refl, one)), ((refl, inl (refl, one)), ((refl, inl (refl, one)), ((refl, inl (refl, one)), ((refl, inr (inl (refl, one))), ((refl, inl (refl, one)), ((refl, inr (inr refl)), tt)))))))))
    (refl, (refl, (refl, (refl, (refl, (refl, (refl, (refl, (refl, tt))))))))) pass in
    let given = both (is_given (codes "property") rows) _ level.1 in
    let given_list = (both (is_given (codes "committee") rows) _ given.1).0 in (
      name_given check.rules (at_place check.rules 0) property_name properties rows level.0 refl refl refl given.0,
      text_given check.rules (at_place check.rules 1) rows level.0 refl given_list,
      record {
        category = count_given check.rules (at_place check.rules 3) most_way_number rows level.0 refl small_count refl;
        set_size = count_given check.rules (at_place check.rules 4) most_way_number rows level.0 refl small_count refl;
        classes = count_given check.rules (at_place check.rules 5) most_way_number rows level.0 refl small_count refl;
        names = flag_given check.rules (at_place check.rules 6) rows level.0 refl refl;
      },
    )

share_values : (words : List Text) → level_passes share [] nothing_held words false ≡ true → HasShareValues (rows_after share.rules [] words)
share_values words pass =
    let rows = rows_after share.rules [] words in
    let level = level_given share words
    ((refl, inl (refl, one)), ((refl, inl (refl, one)), ((refl, inl (refl, one)), ((refl, inl (refl, one)), ((refl, inl (refl, one)), ((refl, inl (refl, one)), ((refl, inl (refl, one)), ((refl, inl (refl, one)), ((refl, inl (refl, one)), ((refl, inr (inl (refl, one))), ((refl, inl (refl, one)), ((refl, inr (inr refl)), tt))))))))))))
    (refl, (refl, (refl, (refl, (refl, (refl, (refl, (refl, (refl, (refl, (refl, (refl, tt)))))))))))) pass in
    let given = both (is_given (codes "method") rows) _ level.1 in
    let given_seats = (both (is_given (codes "seats") rows) _ given.1).0 in (
      name_given share.rules (at_place share.rules 0) method_name methods rows level.0 refl refl refl given.0,
      number_given share.rules (at_place share.rules 1) most_seats rows level.0 refl refl given_seats,
      count_given share.rules (at_place share.rules 4) most_limit rows level.0 refl small_limit refl,
      record {
        category = count_given share.rules (at_place share.rules 6) most_way_number rows level.0 refl small_count refl;
        set_size = count_given share.rules (at_place share.rules 7) most_way_number rows level.0 refl small_count refl;
        classes = count_given share.rules (at_place share.rules 8) most_way_number rows level.0 refl small_count refl;
        names = flag_given share.rules (at_place share.rules 9) rows level.0 refl refl;
      },
    )

-- ---- the command that was entered

named : (name : Text) → (answers_to name (codes "help", [])) ≡ true → not (bytes_eq name (codes "help")) ≡ true → false ≡ true
named name e well =
    let is : codes "help" ≡ name = (bytes_eq-Decides (codes "help") name).0 (or_false (bytes_eq (codes "help") name) e) in
    rw (← is) at well

-- the first of the commands that a name means
abbrev picked : Bool → Bool → Bool → Bool → Option Shape
picked is_elect is_check is_share is_help = if is_elect then Some elect
    else (if is_check then Some check else (if is_share then Some share else (if is_help then Some help else None)))

entered_values : (stop : Option (Text × List Text)) → option_map_or (λ p. not (bytes_eq p.0 (codes "help"))) stop true ≡ true
    → entered_passes (built program) stop ≡ true → is_some (entered (built program) stop) ≡ true
    → (sub : Text × List Row) × (entered (built program) stop ≡ Some sub) × HasValues sub.0 sub.1
entered_values None well pass some = absurd (true≢false (sym some))
entered_values (Some p) well pass some =
    go (answers_to p.0 (label_of elect)) (answers_to p.0 (label_of check)) (answers_to p.0 (label_of share)) (answers_to p.0 (label_of help)) refl pass some
  where
    go : (is_elect is_check is_share is_help : Bool) → answers_to p.0 (label_of help) ≡ is_help
        → option_map_or (λ s. level_passes s [] nothing_held p.1 false) (picked is_elect is_check is_share is_help) true ≡ true
        → is_some (option_map (λ s. rows_at s p.1) (picked is_elect is_check is_share is_help)) ≡ true
        → (sub : Text × List Row)
        × (option_map (λ s. rows_at s p.1) (picked is_elect is_check is_share is_help) ≡ Some sub) × HasValues sub.0 sub.1
    go true is_check is_share is_help e passes there = (rows_at elect p.1, refl, inl (refl, elect_values p.1 passes))
    go false true is_share is_help e passes there = (rows_at check p.1, refl, inr (inl (refl, check_values p.1 passes)))
    go false false true is_help e passes there = (rows_at share p.1, refl, inr (inr (refl, share_values p.1 passes)))
    go false false false true e passes there = absurd (true≢false (sym (named p.0 e well)))
    go false false false false e passes there = absurd (true≢false (sym there))

-- clap found a command, with the values that it requires
pub taken_values : (words : List Text) → takes program words ≡ true
    → (sub : Text × List Row) × (subcommand_of program words ≡ Some sub) × HasValues sub.0 sub.1
taken_values words taken =
    let b = built program in
    let after = argument_words program words in
    let stop = stop_after b.top.rules (names_of b) after in
    let parts = both (entered_passes b stop) (level_passes b.top (names_of b) nothing_held after (is_some (entered b stop))) taken in
    let walks = both (walk_passes b.top (names_of b) (walk_from nothing_held) after) _ parts.1 in
    let end = (walk b.top.rules (names_of b) nothing_held after).held in
    let settles = both (settle_passes b.top.rules b.top.args_override_self end) _ walks.1 in
    let valid : is_valid b.top (finished b.top.rules end) (is_some (entered b stop)) ≡ true = (both true _ settles.1).1 in
    entered_values stop (walk_stops b.top refl (names_of b) (walk_from nothing_held) after walks.0 refl) parts.0
    (both (is_some (entered b stop)) _ valid).0
