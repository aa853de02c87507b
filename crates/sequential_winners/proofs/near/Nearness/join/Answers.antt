use Rattle.std.proofs.Common.{◌≡◌, [], ◌∙◌, ap, arith, get_or, set, subst, sym}
use Rattle.std.proofs.Math.ListN.{length-set}
use Rattle.ballot_base.specs.Limits.{most_candidates}
use Rattle.ballot_base.specs.CandSet.{either_members}
use Rattle.ballot_base.specs.Lists.{IsIncreasing}
use Rattle.ballot_base.proofs.TotalLemmas.{rest-increasing}
use Rattle.sequential_winners.proofs.TableNear.{part, get-any, joined-more, joined-all}
use Rattle.sequential_winners.proofs.near.Nearness.join.Goals as goal

pub loop-c-init : goal.loop-c-init
loop-c-init c =
    let items = c.into_iter-c-iterator.ensures.into_iter_gives ∙ c.members-c-items.ensures.items in record {
      long = c.self.invariant;
      members = subst (IsIncreasing 1 most_candidates) (sym items) c.members-c-items.ensures.valid;
      made = λ n. ap (λ l. part c.args.group l (get_or c.self.inside.each n []) n) items ∙ ap (λ t. part c.args.group c.args.group (get_or t n []) n) c.self.view_is;
    }

pub loop-c-preserved : goal.loop-c-preserved
loop-c-preserved c =
    let inv = c.loop-c.invariant in
    let table = c.loop-c.self-inside.each in
    let k = c.in-Some.c in
    let group = c.args.group in
    let rest = rest-increasing c.loop-c.c-iterator c.next.new.self k most_candidates c.in-Some.ensures.steps inv.members in
    let more = joined-more table c.args.self.now c.loop-c.c-iterator c.next.new.self group k most_candidates c.in-Some.ensures.steps inv.members (omega (arith, inv.long, rest.0)) inv.made in
    let value : c.union.result ≡ either_members (get_or table k []) group =
    c.union.ensures ∙ ap (λ l. either_members l group) (get-any table c.from.result c.index-self-from.result [] (omega (arith, inv.long, rest.0, c.from.ensures)) ∙ ap (λ i. get_or table i []) c.from.ensures) in record {
      long = simp length-set inv.long;
      members = rest.1;
      made = λ n.
          ap (λ i. part group c.next.new.self (get_or (set table i c.union.result) n []) n) c.from-in-loop-c.ensures
          ∙ ap (λ v. part group c.next.new.self (get_or (set table k v) n []) n) value ∙ more n;
    }

pub returns : goal.returns
returns c = joined-all c.loop-c.self-inside.each c.args.self.now c.loop-c.c-iterator c.args.group c.in-None.ensures.steps.0 c.loop-c.invariant.made
