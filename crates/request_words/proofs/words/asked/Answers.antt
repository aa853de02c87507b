use Rattle.std.proofs.Common.{◌≡◌, ◌∙◌, List, ap, bytes_eq, codes, inl, inr, subst, sym, true≢false}
use Rattle.clap.specs.Words.{Row, Text, found_of, rows_of}
use Rattle.request_words.specs.Steps.Values.{GivesAsked, HasCheckValues, HasElectValues, HasShareValues, HasValues}
use Rattle.request_words.specs.Words.{asked_in}
use Rattle.request_words.proofs.words.asked.Goals as goal

-- the values of the command that has this name
elect_values : (name : Text) (rows : List Row) → name ≡ codes "elect" → HasValues name rows → HasElectValues rows
elect_values name rows is (inl h) = h.1
elect_values name rows is (inr (inl h)) = absurd (true≢false (ap (bytes_eq (codes "elect")) (sym is ∙ h.0)))
elect_values name rows is (inr (inr h)) = absurd (true≢false (ap (bytes_eq (codes "elect")) (sym is ∙ h.0)))

check_values : (name : Text) (rows : List Row) → name ≡ codes "check" → HasValues name rows → HasCheckValues rows
check_values name rows is (inl h) = absurd (true≢false (ap (bytes_eq (codes "check")) (sym is ∙ h.0)))
check_values name rows is (inr (inl h)) = h.1
check_values name rows is (inr (inr h)) = absurd (true≢false (ap (bytes_eq (codes "check")) (sym is ∙ h.0)))

share_values : (name : Text) (rows : List Row) → name ≡ codes "share" → HasValues name rows → HasShareValues rows
share_values name rows is (inl h) = absurd (true≢false (ap (bytes_eq (codes "share")) (sym is ∙ h.0)))
share_values name rows is (inr (inl h)) = absurd (true≢false (ap (bytes_eq (codes "share")) (sym is ∙ h.0)))
share_values name rows is (inr (inr h)) = h.1

-- a command has one of the three names
one_of_three : (name : Text) (rows : List Row) → (name ≡ codes "elect" → ⊥) → (name ≡ codes "check" → ⊥) → (name ≡ codes "share" → ⊥) → HasValues name rows → ⊥
one_of_three name rows elect check share (inl h) = elect h.0
one_of_three name rows elect check share (inr (inl h)) = check h.0
one_of_three name rows elect check share (inr (inr h)) = share h.0

pub elect_asked-requires : goal.elect_asked-requires
elect_asked-requires c = elect_values _ _ c.in-elect.is c.requires

pub check_asked-requires : goal.check_asked-requires
check_asked-requires c = check_values _ _ c.in-check.is c.requires

pub share_asked-requires : goal.share_asked-requires
share_asked-requires c = share_values _ _ c.in-share.is c.requires

pub unreachable-requires : goal.unreachable-requires
unreachable-requires c = one_of_three _ _ c.in_default.not-elect c.in_default.not-check c.in_default.not-share c.requires

pub returns-in-elect : goal.returns-in-elect
returns-in-elect c =
    let rows = rows_of (found_of c.args.command.now) in
    subst (λ name. GivesAsked (asked_in name rows) c.elect_asked.result) (sym c.in-elect.is) c.elect_asked.ensures

pub returns-in-check : goal.returns-in-check
returns-in-check c =
    let rows = rows_of (found_of c.args.command.now) in
    subst (λ name. GivesAsked (asked_in name rows) c.check_asked.result) (sym c.in-check.is) c.check_asked.ensures

pub returns-in-share : goal.returns-in-share
returns-in-share c =
    let rows = rows_of (found_of c.args.command.now) in
    subst (λ name. GivesAsked (asked_in name rows) c.share_asked.result) (sym c.in-share.is) c.share_asked.ensures
