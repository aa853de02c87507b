use Rattle.std.proofs.Common.{◌≡◌, ◌∙◌, true, false, refl, sym, ap, arith, inl, inr, get_or, get_or-set_other, get_or-set_same, set}
use Rattle.std.proofs.Math.ListN.{length-set}
use Rattle.std.proofs.lemmas.Bool.{cases_eq}
use Rattle.ballot_base.specs.CandSet.{has_member}
use Rattle.ballot_base.specs.Limits.{most_candidates}
use Rattle.ballot_base.proofs.MemberLemmas.{others-same}
use Rattle.ballot_base.proofs.Passed.{rest-up}
use Rattle.thiele_search.specs.Steps.Uncovered.{newly, uncovered_voters}
use Rattle.thiele_search.proofs.UncoveredLemmas.{few-set, few-zeros}
use Rattle.thiele_search.proofs.uncovered.Uncovered.gains.Goals as goal

pub loop-candidate-init : goal.loop-candidate-init
loop-candidate-init g c =
    rw (c.into_iter-candidate-iterator.ensures.into_iter_gives ∙ c.members-candidate-items.ensures.items) record {
      rises = c.members-candidate-items.ensures.valid;
      long = refl;
      few = λ n. few-zeros n;
      made = λ n is out. absurd (let e : true ≡ false = sym is ∙ out in cc);
    }

pub gain-requires : goal.gain-requires
gain-requires g c =
    omega (arith, (rest-up most_candidates c.in-Some.candidate c.loop-candidate.candidate-iterator c.next.new.self c.in-Some.ensures.steps c.loop-candidate.invariant.rises).0)

pub bounds-gains-from : goal.bounds-gains-from
bounds-gains-from g c =
    omega (arith, c.from.ensures, (rest-up most_candidates c.in-Some.candidate c.loop-candidate.candidate-iterator c.next.new.self c.in-Some.ensures.steps c.loop-candidate.invariant.rises).0)

pub loop-candidate-preserved : goal.loop-candidate-preserved
loop-candidate-preserved g c =
    let table = c.args.self.now in
    let branch = c.args.branch.now in
    let first = c.in-Some.candidate in
    let left = c.loop-candidate.candidate-iterator in
    let rest = c.next.new.self in
    let inv = c.loop-candidate.invariant in
    let up = rest-up most_candidates first left rest c.in-Some.ensures.steps inv.rises in
    let x = c.gain.result in
    let at = c.from.result in
    record {
      rises = up.1;
      long = simp length-set inv.long;
      few = few-set c.loop-candidate.gains at x c.gain.ensures.few inv.few;
      made = λ n is out. elim (cases_eq n first) [
        | inl same ↦
            ap (λ j. get_or (set c.loop-candidate.gains at x) j 0) (same ∙ sym c.from.ensures)
            ∙ get_or-set_same c.loop-candidate.gains at x 0 (omega (arith, inv.long, c.from.ensures, up.0))
            ∙ c.gain.ensures.newly branch.set c.requires.branch.voters
            ∙ ap (newly (uncovered_voters table.profile.now.rows table.set table.free) branch.set) (sym same)
        | inr other ↦
            get_or-set_other c.loop-candidate.gains at n x 0 (λ e. other (e ∙ c.from.ensures))
            ∙ inv.made n is (others-same left rest first c.in-Some.ensures.steps inv.rises n other ∙ out)
      ];
    }

pub returns-clause-each : goal.returns-clause-each
returns-clause-each g c n is = c.loop-candidate.invariant.made n is (ap (λ l. has_member l n) c.in-None.ensures.steps.0)

pub returns-clause-few : goal.returns-clause-few
returns-clause-few g c n = c.loop-candidate.invariant.few n
