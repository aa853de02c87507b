use Rattle.std.proofs.Common.{◌≡◌, ◌∙◌, ap, codes, sym}
use Rattle.clap.specs.Words.{found_of, rows_of}
use Rattle.clap.proofs.WalkLemmas.{first_value-rows}
use Rattle.std.specs.Prelude.{option_map}
use Rattle.std.specs.Vec.{vec_items}
use Rattle.request_words.specs.Request.{checking, of_ballots}
use Rattle.request_words.specs.Words.{asking, check_in, listed}
use Rattle.request_words.specs.Steps.Values.{GivesAsked}
use Rattle.request_words.specs.declared.words.ListOption.TheVariants.{Committee}
use Rattle.request_words.proofs.WordsLemmas.{check_given, check_is, failed, passed_on, some_there, text_is, text_there}
use Rattle.request_words.proofs.words.check_asked.Goals as goal

pub unwrap-requires : goal.unwrap-requires
unwrap-requires c = text_there c.get_str.result c.requires.0.text
    (c.get_str.ensures ∙ first_value-rows (found_of c.args.check.now) (codes "property") ∙ c.requires.0.given)

pub unwrap-property-requires : goal.unwrap-property-requires
unwrap-property-requires c =
    let is : c.unwrap.result.now ≡ c.requires.0.text = text_is c.get_str.result c.unwrap.result c.requires.0.text c.unwrap.ensures
    (c.get_str.ensures ∙ first_value-rows (found_of c.args.check.now) (codes "property") ∙ c.requires.0.given) in
    rw (c.named.ensures, is) c.requires.0.known

pub unwrap-committee-requires : goal.unwrap-committee-requires
unwrap-committee-requires c = some_there c.get_str-2.result _ (c.get_str-2.ensures ∙ first_value-rows (found_of c.args.check.now) (codes "committee")) c.requires.1

pub returns-in_err-committee : goal.returns-in_err-committee
returns-in_err-committee c =
    let rows = rows_of (found_of c.args.check.now) in
    let named : c.unwrap.result.now ≡ c.requires.0.text = text_is c.get_str.result c.unwrap.result c.requires.0.text c.unwrap.ensures
    (c.get_str.ensures ∙ first_value-rows (found_of c.args.check.now) (codes "property") ∙ c.requires.0.given) in
    let said = check_is rows c.requires c.unwrap.result.now c.unwrap-committee.result.now c.unwrap-property.result named
    (sym c.named.ensures ∙ c.unwrap-property.ensures)
    (sym (c.get_str-2.ensures ∙ first_value-rows (found_of c.args.check.now) (codes "committee")) ∙ ap (option_map (λ s. s.now)) c.unwrap-committee.ensures) in
    passed_on (GivesAsked (check_in rows)) c.from_residual.result c.in_err-committee.field-0.0 c.from_residual.ensures.1
    (failed (check_in rows) (λ committee. asking rows (of_ballots (checking c.unwrap-property.result committee))) (listed Committee c.unwrap-committee.result.now)
    c.in_err-committee.field-0.0 said c.in_err-committee.ensures.given)

pub returns : goal.returns
returns c =
    let rows = rows_of (found_of c.args.check.now) in
    let named : c.unwrap.result.now ≡ c.requires.0.text = text_is c.get_str.result c.unwrap.result c.requires.0.text c.unwrap.ensures
    (c.get_str.ensures ∙ first_value-rows (found_of c.args.check.now) (codes "property") ∙ c.requires.0.given) in
    let said = check_is rows c.requires c.unwrap.result.now c.unwrap-committee.result.now c.unwrap-property.result named
    (sym c.named.ensures ∙ c.unwrap-property.ensures)
    (sym (c.get_str-2.ensures ∙ first_value-rows (found_of c.args.check.now) (codes "committee")) ∙ ap (option_map (λ s. s.now)) c.unwrap-committee.ensures) in
    check_given (check_in rows) (λ committee. asking rows (of_ballots (checking c.unwrap-property.result committee))) (vec_items c.in_ok-committee.committee)
    (listed Committee c.unwrap-committee.result.now) c.request.result said c.in_ok-committee.ensures.given c.request.ensures
