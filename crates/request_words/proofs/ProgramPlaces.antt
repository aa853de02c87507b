-- The program means the same to clap wherever the names of its values lie.
use Rattle.std.proofs.Common.{◌≡◌, ◌∙◌, List, [], ◌∷◌, map, refl, sym, ap, true, false}
use Rattle.std.specs.Prelude.{Option, Some, None, option_map, is_some, find}
use Rattle.std.specs.Borrow.{Bor}
use Rattle.std.specs.Option.{option_map_or}
use Rattle.clap.specs.Words.{App, Shape, Text, fault_of, is_simple, is_simple_and_free, subcommand_of}
use Rattle.clap.specs.Walk.{Held, Walk, answers_to, nothing_held, stop_after, texts, walk}
use Rattle.clap.specs.Simple.{argument_words, built, entered, label_of, names_of, rows_at}
use Rattle.clap.specs.Faults.{built_fault, entered_fault, level_fault}
use Rattle.clap.proofs.WalkLemmas.{find-map}
use Rattle.request_words.specs.Names.{kind_names, method_names, property_names, rule_names}
use Rattle.request_words.specs.Words.{Names, check_over, elect_over, program, program_over, share_over, shown}
use Rattle.request_words.proofs.Places.{placed, rows_after_placed, walk_placed}
use Rattle.request_words.proofs.PlacesOfFaults.{at_place, level_placed}

-- ---- a command and its subcommands

abbrev app_at : App → App
app_at a = record { top = at_place a.top; subs = map at_place a.subs }

same_labels : (subs : List Shape) → map label_of (map at_place subs) ≡ map label_of subs
same_labels [] = refl
same_labels (s ∷ subs) = ap (λ rest. label_of s ∷ rest) (same_labels subs)

same_stop : (a : App) (h : Held) (words : List Text)
    → (walk (app_at a).top.rules (names_of (app_at a)) h words).stopped ≡ (walk a.top.rules (names_of a) h words).stopped
same_stop a h words = ap (λ names. (walk (map placed a.top.rules) names h words).stopped) (same_labels a.subs)
    ∙ ap (λ (w : Walk). w.stopped) (walk_placed a.top.rules (names_of a) h words)

sub_named : (subs : List Shape) (word : Text)
    → find (λ s. answers_to word (label_of s)) (map at_place subs) ≡ option_map at_place (find (λ s. answers_to word (label_of s)) subs)
sub_named subs word = sym (find-map (λ (s : Shape). answers_to word (label_of s)) at_place subs)

rows_of_found : (o : Option Shape) (words : List Text) → option_map (λ s. rows_at s words) (option_map at_place o) ≡ option_map (λ s. rows_at s words) o
rows_of_found None words = refl
rows_of_found (Some s) words = ap (λ rows. Some (s.name, rows)) (rows_after_placed s.rules [] words)

same_entered : (a : App) (stop : Option (Text × List Text)) → entered (app_at a) stop ≡ entered a stop
same_entered a None = refl
same_entered a (Some p) = ap (option_map (λ s. rows_at s p.1)) (sub_named a.subs p.0) ∙ rows_of_found _ p.1

faults_of_found : (o : Option Shape) (words : List Text)
    → option_map_or (λ s. level_fault s [] nothing_held words false []) (option_map at_place o) []
    ≡ option_map_or (λ s. level_fault s [] nothing_held words false []) o []
faults_of_found None words = refl
faults_of_found (Some s) words = level_placed s [] nothing_held words false []

same_entered_fault : (a : App) (stop : Option (Text × List Text)) → entered_fault (app_at a) stop ≡ entered_fault a stop
same_entered_fault a None = refl
same_entered_fault a (Some p) = ap (λ o. option_map_or (λ s. level_fault s [] nothing_held p.1 false []) o []) (sub_named a.subs p.0)
    ∙ faults_of_found _ p.1

same_fault : (a : App) (h : Held) (words : List Text) → built_fault (app_at a) h words ≡ built_fault a h words
same_fault a h words =
    let stop = same_stop a h words in
    let end = (walk a.top.rules (names_of a) h words).stopped in
    let has = ap is_some (ap (entered (app_at a)) stop ∙ same_entered a end) in
    let below = ap (entered_fault (app_at a)) stop ∙ same_entered_fault a end in
    (λ i. level_fault (at_place a.top) (same_labels a.subs i) h words (has i) (below i))
    ∙ level_placed a.top (names_of a) h words (is_some (entered a end)) (entered_fault a end)

same_sub : (a : App) (words : List Text)
    → entered (app_at a) (stop_after (app_at a).top.rules (names_of (app_at a)) words) ≡ entered a (stop_after a.top.rules (names_of a) words)
same_sub a words = ap (entered (app_at a)) (same_stop a nothing_held words) ∙ same_entered a (stop_after a.top.rules (names_of a) words)

-- ---- the program

same_shown : (names : List (Bor Text)) → map (λ x. shown x.now) names ≡ map shown (texts names)
same_shown [] = refl
same_shown (x ∷ names) = ap (λ rest. shown x.now ∷ rest) (same_shown names)

shown_is : (names : Bor (List (Bor Text))) (values : List Text) → texts names.now ≡ values → shown (map (λ x. shown x.now) names.now) ≡ shown (map shown values)
shown_is names values is = ap shown (same_shown names.now ∙ ap (map shown) is)

module _ (elect check share : Shape) (rules properties methods kinds_1 kinds_2 kinds_3 : Names) (elect_is : elect ≡ elect_over rules kinds_1)
    (check_is : check ≡ check_over properties kinds_2) (share_is : share ≡ share_over methods kinds_3) (rules_are : texts rules.now ≡ rule_names)
    (properties_are : texts properties.now ≡ property_names) (methods_are : texts methods.now ≡ method_names) (kinds_1_are : texts kinds_1.now ≡ kind_names)
    (kinds_2_are : texts kinds_2.now ≡ kind_names) (kinds_3_are : texts kinds_3.now ≡ kind_names) where
  abbrev over : App
  over = program_over (elect_over rules kinds_1) (check_over properties kinds_2) (share_over methods kinds_3)

  program_at : app_at (built over) ≡ built program
  program_at = λ i. built (program_over
      (elect_over (shown_is rules rule_names rules_are i) (shown_is kinds_1 kind_names kinds_1_are i))
      (check_over (shown_is properties property_names properties_are i) (shown_is kinds_2 kind_names kinds_2_are i))
      (share_over (shown_is methods method_names methods_are i) (shown_is kinds_3 kind_names kinds_3_are i)))

  over_is : program_over elect check share ≡ over
  over_is = λ i. program_over (elect_is i) (check_is i) (share_is i)

  pub program_fault : (words : List Text) → fault_of (program_over elect check share) words ≡ fault_of program words
  program_fault words =
      let after = argument_words program words in
      ap (λ a. fault_of a words) over_is
      ∙ sym (same_fault (built over) nothing_held after) ∙ ap (λ a. built_fault a nothing_held after) program_at

  pub program_sub : (words : List Text) → subcommand_of (program_over elect check share) words ≡ subcommand_of program words
  program_sub words =
      let after = argument_words program words in
      ap (λ a. subcommand_of a words) over_is
      ∙ sym (same_sub (built over) after)
      ∙ ap (λ (a : App). entered a (stop_after a.top.rules (names_of a) after)) program_at

  pub program_free : is_simple_and_free (program_over elect check share) ≡ true
  program_free = ap is_simple_and_free over_is

  pub program_simple : is_simple (program_over elect check share) ≡ true
  program_simple = ap is_simple over_is
