-- Words that clap takes have an outcome.
use Rattle.std.proofs.Common.{◌≡◌, List, Option, Some, None, inl, inr, refl, sym, subst, ap, true, true≢false}
use Rattle.std.specs.Prelude.{is_some}
use Rattle.std.specs.Option.{IsSome}
use Rattle.clap.specs.Words.{Row, Text, takes, without_minus}
use Rattle.group_check.specs.Names.{property_named}
use Rattle.seat_share.specs.Names.{method_named}
use Rattle.request_words.specs.Names.{rule_named}
use Rattle.request_words.specs.Words.{asked_in, check_in, elect_in, number_of, outcome_of, program, share_in}
use Rattle.request_words.specs.Steps.Values.{HasCheckValues, HasElectValues, HasShareValues, HasValues}
use Rattle.request_words.proofs.GivenRequest.{taken_values}
use Rattle.request_words.proofs.WordsLemmas.{check_is, elect_is, share_is}

-- what is there
there : {X : Type 0} (o : Option X) → is_some o ≡ true → (x : X) × (o ≡ Some x)
there None some = absurd (true≢false (sym some))
there (Some x) some = (x, refl)

elect_there : (rows : List Row) → HasElectValues rows → IsSome (elect_in rows)
elect_there rows h =
    let rule = there (rule_named h.0.text) h.0.known in
    ap is_some (elect_is rows h h.0.text rule.0 (number_of (without_minus h.1.text)) refl rule.1 refl)

check_there : (rows : List Row) → HasCheckValues rows → IsSome (check_in rows)
check_there rows h =
    let property = there (property_named h.0.text) h.0.known in
    let list = there _ h.1 in
    ap is_some (check_is rows h h.0.text list.0 property.0 refl property.1 list.1)

share_there : (rows : List Row) → HasShareValues rows → IsSome (share_in rows)
share_there rows h =
    let method = there (method_named h.0.text) h.0.known in
    ap is_some (share_is rows h h.0.text method.0 (number_of (without_minus h.1.text)) refl method.1 refl)

asked_there : (command : Text) (rows : List Row) → HasValues command rows → IsSome (asked_in command rows)
asked_there command rows (inl h) = subst (λ name. IsSome (asked_in name rows)) (sym h.0) (elect_there rows h.1)
asked_there command rows (inr (inl h)) = subst (λ name. IsSome (asked_in name rows)) (sym h.0) (check_there rows h.1)
asked_there command rows (inr (inr h)) = subst (λ name. IsSome (asked_in name rows)) (sym h.0) (share_there rows h.1)

pub taken_words : (words : List Text) → takes program words ≡ true → IsSome (outcome_of words)
taken_words words taken =
    let found = taken_values words taken in
    rw (taken, found.1) (asked_there found.0.0 found.0.1 found.2)
