use Rattle.std.proofs.Common.{◌≡◌, ℕ, ◌≤◌, true, false, sym, subst}
use Rattle.ballot_base.specs.CandSet.{has_member, other_members}
use Rattle.ballot_base.specs.Limits.{most_candidates}
use Rattle.ballot_base.specs.Lists.{IsIncreasing}
use Rattle.ballot_base.proofs.Increasing.{has_member_head, IsIncreasing-filter, IsIncreasing-with_member}
use Rattle.tie_walk.proofs.LevelLemmas.{in_bounds}
use Rattle.sequential_winners.specs.Steps.Near.{near_of, AreFar}
use Rattle.sequential_winners.proofs.ApartLemmas.{far-joined}
use Rattle.sequential_winners.proofs.TableNear.{far-more, others-out}
use Rattle.sequential_winners.proofs.near.Nearness.apart.Goals as goal
use Rattle.sequential_winners.proofs.near.Nearness.apart.Goals.{In-Some}

here : (c : In-Some) → has_member c.loop-turn.rest c.in-Some.next ≡ true
here c = subst (λ l. has_member l c.in-Some.next ≡ true) (sym c.in-Some.ensures) (has_member_head c.in-Some.next c.in-Some._others)

bounds : (c : In-Some) → (1 ≤ c.in-Some.next) × (c.in-Some.next ≤ most_candidates)
bounds c = in_bounds most_candidates c.loop-turn.rest c.in-Some.next c.loop-turn.invariant.rises (here c)

pub loop-turn-init : goal.loop-turn-init
loop-turn-init c =
    let none = λ (n : ℕ) (inside : has_member c.empty-apart.result n ≡ true). (let f : false ≡ true = subst (λ l. has_member l n ≡ true) c.empty-apart.ensures inside in f) in record {
      rises = c.requires;
      up = subst (IsIncreasing 1 most_candidates) (sym c.empty-apart.ensures) tt;
      taken = λ n inside. absurd (let f = none n inside in cc);
      left = λ n inside. inside;
      far = λ x d inside. absurd (let f = none x inside in cc);
      out = λ t n inside. absurd (let f = none t inside in cc);
    }

pub with-apart-requires-clause-low : goal.with-apart-requires-clause-low
with-apart-requires-clause-low c = (bounds (goal.at.with-apart-requires-clause-low c).In-Some).0

pub with-apart-requires-clause-high : goal.with-apart-requires-clause-high
with-apart-requires-clause-high c = (bounds (goal.at.with-apart-requires-clause-high c).In-Some).1

pub of-requires-clause-low : goal.of-requires-clause-low
of-requires-clause-low c = (bounds (goal.at.of-requires-clause-low c).In-Some).0

pub of-requires-clause-high : goal.of-requires-clause-high
of-requires-clause-high c = (bounds (goal.at.of-requires-clause-high c).In-Some).1

pub loop-turn-preserved : goal.loop-turn-preserved
loop-turn-preserved c =
    let inv = c.loop-turn.invariant in
    let next = c.in-Some.next in
    let rest = c.loop-turn.rest in
    let table = c.args.self.now in
    let at = (goal.at.loop-turn-preserved c).In-Some in
    let near : c.of.result ≡ near_of table next = c.of.ensures in
    let left : c.minus-rest.result ≡ other_members rest c.of.result = c.minus-rest.ensures in
    let parts = λ (n : ℕ) (inside : has_member c.minus-rest.result n ≡ true). others-out rest c.of.result n (subst (λ l. has_member l n ≡ true) left inside) in record {
      rises = subst (IsIncreasing 1 most_candidates) (sym left) (IsIncreasing-filter _ 1 most_candidates rest inv.rises);
      up = subst (IsIncreasing 1 most_candidates) (sym c.with-apart.ensures) (IsIncreasing-with_member 1 most_candidates c.loop-turn.apart next (bounds at).0 (bounds at).1 inv.up);
      taken = λ n inside. far-joined (λ x. has_member c.args.among x ≡ true) c.loop-turn.apart next n (subst (λ l. has_member l n ≡ true) c.with-apart.ensures inside) (inv.left next (here at)) (λ old. inv.taken n old);
      left = λ n inside. inv.left n (parts n inside).0;
      far = subst (AreFar table) (sym c.with-apart.ensures) (far-more table c.loop-turn.apart next inv.far (λ t inside. inv.out t next inside (here at)));
      out = λ t n inside inside'. far-joined (λ (x : ℕ). has_member (near_of table x) n ≡ false) c.loop-turn.apart next t (subst (λ l. has_member l t ≡ true) c.with-apart.ensures inside)
          (subst (λ l. has_member l n ≡ false) near (parts n inside').1) (λ old. inv.out t n old (parts n inside').0);
    }
