-- The report, from the first violation of each level.
use Rattle.std.proofs.Common.{◌≡◌, ℕ, ◌+◌, ◌<◌, ◌≤◌, true, false, List, Option, Some, None, refl, sym, ◌∙◌, subst, arith, inl, inr, length}
use Rattle.std.specs.Prelude.{is_some, IfSome, ◌↔◌}
use Rattle.std.proofs.lemmas.Bool.{cases_lt, cases_order}
use Rattle.ballot_base.specs.Lists.{IsIncreasing}
use Rattle.ballot_base.specs.Ballots.{Election}
use Rattle.group_check.specs.declared.property.Property.{Property}
use Rattle.group_check.specs.declared.property.Violation.{Violation}
use Rattle.group_check.specs.Groups.{SomeGroupBreaks, HasProperty}
use Rattle.group_check.specs.Report.{IsReport, first_violation, is_in_group, group_of}
use Rattle.group_check.specs.Steps.Checking.{greatest_level}
use Rattle.group_check.proofs.GroupLemmas.{group_of-group}
use Rattle.group_check.proofs.BreakLemmas.{no_group, some_group, above_greatest, first_is}

module _ (property : Property) (e : Election) (committee : List ℕ) where
  -- no group breaks the property below this level
  abbrev pub NoneBelow : ℕ → Type 0
  NoneBelow bound = (level : ℕ) → 1 ≤ level → level < bound → SomeGroupBreaks property e committee level → ⊥

  nothing_found : (found : Option Violation) → is_some found ≡ false → found ≡ None
  nothing_found None h = refl
  nothing_found (Some report) h = cc

  pub none_more : (level : ℕ) (found : Option Violation) → IsIncreasing 1 e.m committee → 1 ≤ level → level ≤ length committee
      → found ≡ first_violation property e committee level → is_some found ≡ false → NoneBelow level → NoneBelow (level + 1)
  none_more level found i least most is none below lower from to some =
      elim (cases_lt lower level) [
        | inl less ↦ below lower from less some
        | inr same ↦
            let e' : lower ≡ level = omega (arith, same, to) in
            no_group property e committee level i least most (sym is ∙ nothing_found found none) (subst (λ n. SomeGroupBreaks property e committee n) e' some)
      ]

  -- where no group breaks the property up to the greatest level, the committee has it
  pub has_property : (bound : ℕ) → greatest_level property committee < bound → NoneBelow bound → HasProperty property e committee
  has_property bound great below level least most some =
      elim (cases_lt level bound) [
        | inl less ↦ below level least less some
        | inr more ↦ above_greatest property e committee level most (omega (arith, great, more)) some
      ]

  pub report_found : (level : ℕ) (found : Option Violation) → 1 ≤ level → level ≤ length committee
      → found ≡ first_violation property e committee level → is_some found ≡ true → NoneBelow level → IfSome found (IsReport property e committee)
  report_found level None least most is some below = tt
  report_found level (Some report) least most is some below =
      let known = first_is property e committee level report (sym is) in
      let at : level ≡ report.level = known.0 in record {
        low = omega (arith, at, least);
        high = omega (arith, at, most);
        breaks = known.1;
        least = λ lower from to. below lower from (omega (arith, at, to));
        first = subst (λ n. first_violation property e committee n ≡ Some report) at (sym is);
      }

  -- where a violation was found, the committee lacks the property
  pub lacks_property : (level : ℕ) (found : Option Violation) → 1 ≤ level → level ≤ length committee
      → found ≡ first_violation property e committee level → is_some found ≡ true → (found ≡ None) ↔ HasProperty property e committee
  lacks_property level None least most is some = cc
  lacks_property level (Some report) least most is some = (
    (λ none. cc),
    (λ has. absurd (has level least most (some_group property e committee level report (sym is)))),
  )

  some_group_of : (report : Violation) → IsReport property e committee report → SomeGroupBreaks property e committee report.level
  some_group_of report is = (group_of (is_in_group report) e.rows, group_of-group (is_in_group report) e.rows, is.breaks)

  -- there is one report
  pub one_report : (a b : Violation) → IsReport property e committee a → IsReport property e committee b → a ≡ b
  one_report a b x y =
      elim (cases_order a.level b.level) [
        | inl same ↦
            let first : first_violation property e committee b.level ≡ Some a = subst (λ n. first_violation property e committee n ≡ Some a) same x.first in
            let second = y.first in
            let both : Some a ≡ Some b = sym first ∙ second in cc
        | inr apart ↦ elim apart [
          | inl less ↦ absurd (y.least a.level x.low less (some_group_of a x))
          | inr more ↦ absurd (x.least b.level y.low more (some_group_of b y))
        ]
      ]
