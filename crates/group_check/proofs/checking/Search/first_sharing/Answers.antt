use Rattle.std.proofs.Common.{◌-◌, sym, ◌∙◌, rules}
use Rattle.std.proofs.Math.Nat.{sub-zero}
use denote.Enum.Bare.{differs_false}
use Rattle.ballot_base.specs.CandSet.{has_member}
use Rattle.group_check.specs.contracts.property.Property.{the_type}
use Rattle.group_check.specs.declared.property.Property.TheVariants.{Pjr}
use Rattle.group_check.proofs.BeginningLemmas.{first_beside, second_beside, none_beside}
use Rattle.group_check.proofs.SetLemmas.{all_pass}
use Rattle.group_check.proofs.checking.Search.first_sharing.Goals as goal

pub first_within-requires-clause-members : goal.first_within-requires-clause-members
first_within-requires-clause-members g c =
    let committee = c.args.self.now.committee in
    all_pass (has_member committee) committee (λ n h. h)

pub returns-in_err-within : goal.returns-in_err-within
returns-in_err-within g c =
    let s = c.args.self.now in
    let is = differs_false the_type (search rules) s.property Pjr (sym c.ne.ensures ∙ c.if-ne.false) in
    let none = sym (rw (c.empty-nobody.ensures, sub-zero (s.level - 1)) at c.first_within.ensures) ∙ c.in_err-within.was in
    c.from_residual.ensures ∙ rw is (none_beside s.profile.now s.committee s.level c.args.shared s.candidates none)

pub counted-requires-2-clause-within : goal.counted-requires-2-clause-within
counted-requires-2-clause-within g c =
    let s = c.args.self.now in
    let is = differs_false the_type (search rules) s.property Pjr (sym c.ne.ensures ∙ c.if-ne.false) in
    let found = sym (rw (c.empty-nobody.ensures, sub-zero (s.level - 1)) at c.first_within.ensures) ∙ c.in_ok-within.was in
    rw is (second_beside s.profile.now s.committee s.level c.args.shared c.in_ok-within.within s.candidates found)

pub returns : goal.returns
returns g c =
    let s = c.args.self.now in
    let is = differs_false the_type (search rules) s.property Pjr (sym c.ne.ensures ∙ c.if-ne.false) in
    let found = sym (rw (c.empty-nobody.ensures, sub-zero (s.level - 1)) at c.first_within.ensures) ∙ c.in_ok-within.was in
    c.counted-2.ensures
    ∙ rw is (first_beside s.profile.now s.committee s.level c.args.shared c.in_ok-within.within s.candidates s.least (rw is at s.most) (rw is at c.requires) found)
