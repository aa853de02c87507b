use Rattle.std.proofs.Common.{rules, refl, sym, ap, ◌∙◌}
use Rattle.std.specs.Prelude.{option_map}
use Rattle.std.specs.Vec.{vec_items}
use Rattle.ballot_base.specs.Lists.{is_committee}
use Rattle.vote_cli.specs.Starts.{may_start}
use Rattle.vote_cli.proofs.StartLemmas.{committee_of_other_size, committee_yes, no_committee}
use Rattle.vote_cli.proofs.starts.committee_start.Goals as goal

pub returns-in_default-committee_of-clause-misfit : goal.returns-in_default-committee_of-clause-misfit
returns-in_default-committee_of-clause-misfit c = (
  refl,
  ap (λ a. may_start (is_committee c.args.m c.args.k) (option_map vec_items a)) c.in-Some.is
      ∙ ap (is_committee c.args.m c.args.k) (sym c.deref.ensures.value)
      ∙ no_committee c.args.m c.args.k c.deref.result.now c.requires.size (c.committee_of.ensures.none (search rules)),
)

pub returns-clause-fits : goal.returns-clause-fits
returns-clause-fits c =
    ap (λ a. may_start (is_committee c.args.m c.args.k) (option_map vec_items a)) c.in-Some.is
    ∙ ap (is_committee c.args.m c.args.k) (sym c.deref.ensures.value)
    ∙ committee_yes c.args.m c.args.k c.len.result c.deref.result.now c.in-Some-committee_of.committee
    c.in-Some-committee_of.ensures.fits.0 c.in-Some-committee_of.ensures.some c.len.ensures.count c.if-len-k.false

pub returns-then-len-k-clause-misfit : goal.returns-then-len-k-clause-misfit
returns-then-len-k-clause-misfit c = (
  refl,
  ap (λ a. may_start (is_committee c.args.m c.args.k) (option_map vec_items a)) c.in-Some.is
      ∙ ap (is_committee c.args.m c.args.k) (sym c.deref.ensures.value)
      ∙ committee_of_other_size c.args.m c.args.k c.len.result c.deref.result.now c.in-Some-committee_of.committee
      c.in-Some-committee_of.ensures.some c.len.ensures.count c.if-len-k.true,
)
