use Rattle.std.proofs.Common.{◌≡◌, ℕ, ap, arith, sym, ◌∙◌, rules, sum}
use Rattle.std.specs.Prelude.{nat_le, slice_index}
use Rattle.std.proofs.lemmas.Bool.{lt-leb}
use Rattle.ballot_base.proofs.Increasing.{IsIncreasing-filter}
use Rattle.group_check.specs.Steps.Checking.{is_large}
use Rattle.group_check.specs.Steps.Refuting.{possible_voters}
use Rattle.group_check.proofs.RefutationLemmas.{refuted_by_voters, refuted_by_pool, peeled}
use Rattle.group_check.proofs.checking.Search.finding.Goals as goal
use Rattle.group_check.proofs.checking.Search.finding.Goals.{then-voters-needed-via-then-voters-needed, then-voters-needed-via-else-voters-needed+then-len-choices}

pub returns-then-voters-needed-clause-finding : goal.returns-then-voters-needed-clause-finding
returns-then-voters-needed-clause-finding g c =
    let s = c.args.self.now in
    let choices = c.args.choices.now in
    let all : c.voters_with-voters.result ≡ sum (possible_voters s.property s.profile.now s.committee s.level choices) = search rules in
    elim c.then-voters-needed.branch [
      | then-voters-needed-via-then-voters-needed w ↦
          refuted_by_voters s.property s.profile.now s.committee s.level choices c.voters_with-voters.ensures.valid
          (sym (c.needed.ensures (sum (possible_voters s.property s.profile.now s.committee s.level choices)))
          ∙ lt-leb c.needed.result (sum (possible_voters s.property s.profile.now s.committee s.level choices)) (omega (arith, all, w.if-voters-needed.true)))
      | then-voters-needed-via-else-voters-needed+then-len-choices w ↦
          refuted_by_pool s.property s.profile.now s.committee s.level choices c.requires.rises (omega (arith, w.if-len-choices.true, w.len.ensures.count))
    ]

pub returns-then-len-clause-finding : goal.returns-then-len-clause-finding
returns-then-len-clause-finding g c =
    let s = c.args.self.now in
    let choices = c.args.choices.now in
    let keeps = λ (n : ℕ). nat_le c.needed-2.result (slice_index c.supporters-supporters.result n) in
    let same = rw c.from.ensures at c.at_least-pool.ensures in (
      rw same (IsIncreasing-filter keeps 1 s.profile.now.m choices.pool c.requires.rises),
      omega (arith, c.if-len.true, c.len-2.ensures.count, c.len-3.ensures.count),
      rw same
          (peeled s.property s.profile.now s.committee s.level choices c.voters_with-voters.ensures.valid keeps
          (λ n. c.needed-2.ensures (slice_index c.supporters-supporters.result n) ∙ ap (is_large s.profile.now s.committee s.level) (c.supporters-supporters.ensures n))),
    )
