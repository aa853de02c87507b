use Rattle.std.proofs.Common.{ℕ, ◌-◌, true, false, ap, refl, rules, sym, ◌∙◌}
use denote.Enum.Bare.{same_true}
use Rattle.group_check.specs.contracts.property.Property.{the_type}
use Rattle.group_check.specs.declared.property.Property.TheVariants.{Pjr}
use Rattle.group_check.specs.declared.refutation.Agreement.{Agreement}
use Rattle.group_check.proofs.ChargeLemmas.{refuted_by_candidates, refuted_by_members}
use Rattle.group_check.proofs.checking.Search.is_overcharged.Goals as goal

pub returns-then-cannot_agree : goal.returns-then-cannot_agree
returns-then-cannot_agree g c h =
    let s = c.args.self.now in
    let choices = c.args.choices.now in
    let agreement : ℕ → Agreement = λ n. record { candidates = choices.pool; spared = n - choices.left; approved = true } in
    refuted_by_candidates s.property s.profile.now s.committee s.level choices (agreement c.len.result) c.requires.valid c.requires.are_open (ap agreement c.len.ensures.count) (c.cannot_agree.ensures h)

pub returns-then-eq : goal.returns-then-eq
returns-then-eq g c h =
    let s = c.args.self.now in
    let choices = c.args.choices.now in
    let is = same_true the_type (search rules) s.property Pjr (sym c.eq.ensures ∙ c.if-eq.true) in
    refuted_by_members s.property s.profile.now s.committee s.level choices record { candidates = choices.members; spared = choices.room; approved = false } is c.requires.valid c.requires.are_open refl (c.cannot_agree-then-eq.ensures h)
