-- Each request has one answer over each input.
use Rattle.std.proofs.Common.{◌≡◌, ◌⊎◌, ℕ, zero, suc, ◌+◌, ◌≤◌, Bool, true, false, List, [], length, Option, Some, None, Result, Ok, Err, inl, inr, refl, sym, ap, ◌∙◌, arith, true≢false}
use Rattle.std.specs.Prelude.{codes, is_some}
use Rattle.std.proofs.lemmas.Bool.{cases_Bool}
use Rattle.ballot_base.specs.Lists.{IsIncreasing}
use Rattle.ballot_base.specs.Ballots.{Election}
use Rattle.group_check.specs.Groups.{HasProperty}
use Rattle.group_check.specs.Report.{IsReport, first_violation}
use Rattle.group_check.specs.declared.property.Property.{Property}
use Rattle.group_check.specs.declared.property.Violation.{Violation}
use Rattle.group_check.proofs.BreakLemmas.{some_group}
use Rattle.group_check.proofs.ReportLemmas.{NoneBelow, none_more, one_report, report_found}
use Rattle.preflib_text.specs.Reading.{Reads}
use Rattle.preflib_text.specs.declared.fault.ReadFault.{ReadFault}
use Rattle.preflib_text.specs.declared.pick.Pick.{Pick}
use Rattle.preflib_text.proofs.ReadLemmas.{some_outcome_is}
use Rattle.request_words.specs.Request.{Request, Task, electing, checking, sharing, of_ballots, of_votes}
use Rattle.vote_cli.specs.FaultText.{fault_text}
use Rattle.text_output.specs.Names.{naming}
use Rattle.text_output.specs.CheckText.{holds_text, violation_text}
use Rattle.vote_cli.specs.declared.status.Status.TheVariants.{InputRefused}
use Rattle.vote_cli.specs.Answer.{Answer, IsAnswer, IsAnswerOver, IsAnswerTo, IsCheckAnswer, answered, ballots_answer, election_answer, may_be_checked, request_refused, refused, share_answer, violated}
use Rattle.vote_cli.proofs.PageLaws.{related_over}
use Rattle.vote_cli.proofs.StartLemmas.{may_be_checked-is}

-- ---- a committee has the property, or there is a report

module _ (property : Property) (e : Election) (committee : List ℕ) (rises : IsIncreasing 1 e.m committee) where
  abbrev pub Checked : Type 0
  Checked = HasProperty property e committee ⊎ ((report : Violation) × IsReport property e committee report)

  -- from a level on, below which no group breaks the property
  checked_from : (fuel level : ℕ) → fuel + level ≡ length committee + 1 → 1 ≤ level → NoneBelow property e committee level → Checked
  checked_from zero level all least below = inl (λ l low high some. below l low (omega (arith, all, high)) some)
  checked_from (suc fuel) level all least below =
      by (first_violation property e committee level) refl
      (λ found is none. checked_from fuel (level + 1) (omega (arith, all)) (omega (arith, least))
      (none_more property e committee level found rises least (omega (arith, all)) is none below))
    where
      by : (found : Option Violation) → found ≡ first_violation property e committee level
          → ((found : Option Violation) → found ≡ first_violation property e committee level → is_some found ≡ false → Checked) → Checked
      by None is next = next None is refl
      by (Some report) is next =
          inr (report, report_found property e committee level (Some report) least (omega (arith, all)) is refl below)

  pub checked : Checked
  checked = checked_from (length committee) 1 (omega arith) (omega arith) (λ level low high some. omega (arith, low, high))

  -- and not both
  pub not_both : (report : Violation) → HasProperty property e committee → IsReport property e committee report → ⊥
  not_both report has is = has report.level is.low is.high (some_group property e committee report.level report is.first)

-- ---- one answer at most

one_check_answer : (property : Property) (list : List ℕ) (with_names : Bool) (e : Election) (a b : Answer)
    → IsCheckAnswer property list with_names e a → IsCheckAnswer property list with_names e b → a ≡ b
one_check_answer property list with_names e a b (inl x) (inl y) = x.1 ∙ sym y.1
one_check_answer property list with_names e a b (inl x) (inr (inl y)) = absurd (true≢false (sym y.0 ∙ x.0))
one_check_answer property list with_names e a b (inl x) (inr (inr y)) = absurd (true≢false (sym y.0 ∙ x.0))
one_check_answer property list with_names e a b (inr (inl x)) (inl y) = absurd (true≢false (sym x.0 ∙ y.0))
one_check_answer property list with_names e a b (inr (inl x)) (inr (inl y)) = x.2 ∙ sym y.2
one_check_answer property list with_names e a b (inr (inl x)) (inr (inr y)) =
    absurd (not_both property e list (may_be_checked-is e.m list x.0) y.1.0 x.1 y.1.1)
one_check_answer property list with_names e a b (inr (inr x)) (inl y) = absurd (true≢false (sym x.0 ∙ y.0))
one_check_answer property list with_names e a b (inr (inr x)) (inr (inl y)) =
    absurd (not_both property e list (may_be_checked-is e.m list x.0) x.1.0 y.1 x.1.1)
one_check_answer property list with_names e a b (inr (inr x)) (inr (inr y)) =
    x.1.2 ∙ ap (λ report. violated (violation_text (naming with_names e.names) report e)) (one_report property e list x.1.0 y.1.0 x.1.1 y.1.1) ∙ sym y.1.2

one_over : (IsRight : Election → Answer → Type 0) (one : (e : Election) (a b : Answer) → IsRight e a → IsRight e b → a ≡ b) (pick : Pick) (bytes : List ℕ)
    (a b : Answer) → IsAnswerOver IsRight pick bytes a → IsAnswerOver IsRight pick bytes b → a ≡ b
one_over IsRight one pick bytes = related_over (λ a b. a ≡ b) (λ answer none. refl) IsRight IsRight pick bytes (λ e a b reads x y. one e a b x y)

one_answer_to : (with_names : Bool) (task : Task) (pick : Pick) (bytes : List ℕ) (a b : Answer) → IsAnswerTo with_names task pick bytes a → IsAnswerTo with_names task pick bytes b → a ≡ b
one_answer_to with_names (of_ballots (electing rule size page)) pick bytes a b x y =
    one_over (λ e answer. answer ≡ election_answer rule size page with_names e) (λ e a b x y. x ∙ sym y) pick bytes a b x y
one_answer_to with_names (of_ballots (checking property list)) pick bytes a b x y =
    one_over (IsCheckAnswer property list with_names) (one_check_answer property list with_names) pick bytes a b x y
one_answer_to with_names (of_ballots (sharing method seats page)) pick bytes a b x y =
    one_over (λ e answer. answer ≡ ballots_answer method seats page with_names e) (λ e a b x y. x ∙ sym y) pick bytes a b x y
one_answer_to with_names (of_votes votes method seats page) pick bytes a b x y = x ∙ sym y

pub one_answer : (asked : Request) (bytes : List ℕ) (a b : Answer) → IsAnswer asked bytes a → IsAnswer asked bytes b → a ≡ b
one_answer asked bytes a b x y = one_answer_to asked.names asked.task asked.pick bytes a b x y

-- ---- and one at least

some_check_answer : (property : Property) (list : List ℕ) (with_names : Bool) (e : Election) → (answer : Answer) × IsCheckAnswer property list with_names e answer
some_check_answer property list with_names e = by (cases_Bool (may_be_checked e.m list))
  where
    by : (may_be_checked e.m list ≡ true) ⊎ (may_be_checked e.m list ≡ false) → (answer : Answer) × IsCheckAnswer property list with_names e answer
    by (inr none) = (request_refused (codes "CommitteeMisfit"), inl (none, refl))
    by (inl committee) = go (checked property e list (may_be_checked-is e.m list committee))
      where
        go : HasProperty property e list ⊎ ((report : Violation) × IsReport property e list report) → (answer : Answer) × IsCheckAnswer property list with_names e answer
        go (inl has) = (answered holds_text, inr (inl (committee, has, refl)))
        go (inr found) = (violated (violation_text (naming with_names e.names) found.0 e), inr (inr (committee, (found.0, found.1, refl))))

module _ (IsRight : Election → Answer → Type 0) (some : (e : Election) → (answer : Answer) × IsRight e answer) (pick : Pick) (bytes : List ℕ) where
  some_over : (answer : Answer) × IsAnswerOver IsRight pick bytes answer
  some_over = by (some_outcome_is bytes pick)
    where
      by : (read : Result Election ReadFault) × Reads bytes pick read → (answer : Answer) × IsAnswerOver IsRight pick bytes answer
      by (Ok e, reads) = ((some e).0, (Ok e, reads, (some e).1))
      by (Err fault, reads) = (refused InputRefused (fault_text fault), (Err fault, reads, refl))

some_answer_to : (with_names : Bool) (task : Task) (pick : Pick) (bytes : List ℕ) → (answer : Answer) × IsAnswerTo with_names task pick bytes answer
some_answer_to with_names (of_ballots (electing rule size page)) pick bytes =
    some_over (λ e answer. answer ≡ election_answer rule size page with_names e) (λ e. (election_answer rule size page with_names e, refl)) pick bytes
some_answer_to with_names (of_ballots (checking property list)) pick bytes =
    some_over (IsCheckAnswer property list with_names) (some_check_answer property list with_names) pick bytes
some_answer_to with_names (of_ballots (sharing method seats page)) pick bytes =
    some_over (λ e answer. answer ≡ ballots_answer method seats page with_names e) (λ e. (ballots_answer method seats page with_names e, refl)) pick bytes
some_answer_to with_names (of_votes votes method seats page) pick bytes = (share_answer method seats page (naming with_names []) votes, refl)

pub some_answer : (asked : Request) (bytes : List ℕ) → (answer : Answer) × IsAnswer asked bytes answer
some_answer asked bytes = some_answer_to asked.names asked.task asked.pick bytes
