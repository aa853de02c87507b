use Rattle.std.proofs.Common.{◌≡◌, ◌-◌, ◌++◌, ◌<◌, ◌≤◌, ◌∙◌, cond, Some, None, sym, ap, subst, arith, length, map}
use Rattle.std.proofs.lemmas.Bool.{le-leb, lt-leb}
use Rattle.tie_walk.specs.Sequences.{hit_weights}
use Rattle.tie_walk.specs.Steps.Choices.{step_of, choices_of, change, HasSetsOf}
use Rattle.tie_walk.proofs.FoundLemmas.{found-inserted}
use Rattle.sequential_winners.specs.Steps.Levels.{chosen, ties_by, beginners_by, end_by, followers_by}
use Rattle.ballot_base.specs.Limits.{most_candidates}
use Rattle.ballot_base.specs.Lists.{IsIncreasing}
use Rattle.ballot_base.proofs.Increasing.{IsIncreasing-higher}
use Rattle.sequential_winners.proofs.SpanLemmas.{tied-increasing}
use Rattle.sequential_winners.proofs.StepLemmas.{followers-none, followers-last}
use Rattle.sequential_winners.proofs.WinnerLemmas.{set-size, end-size}
use Rattle.sequential_winners.proofs.levels.Levels.follow.Goals as goal

pub choices-requires : goal.choices-requires
choices-requires g c =
    let s = c.args.self.now.choices in
    let size = end-size s.rule s.profile.now c.args.set c.in-Some.end c.m.ensures.valid.ballots c.requires (sym c.ties_and_end-best.ensures.end ∙ c.in-Some.is) in
    omega (arith, size.0, c.len.ensures.count, c.m.ensures.value)

pub returns-in_ok-insert-in-Some : goal.returns-in_ok-insert-in-Some
returns-in_ok-insert-in-Some g c =
    let s = c.args.self.now.choices in
    let e = s.profile.now in
    let last = c.in-Some.end in
    let is : end_by s.rule e c.args.set ≡ Some last = sym c.ties_and_end-best.ensures.end ∙ c.in-Some.is in
    let size = end-size s.rule e c.args.set last c.m.ensures.valid.ballots c.requires is in
    let over : chosen (step_of s.rule) e.m last ≤ c.args.total = omega (arith, size.1, c.choices.ensures, c.if-choices-total.true, ap (λ n. choices_of s.rule n (length last)) c.m.ensures.value, ap (choices_of s.rule c.m.result) c.len.ensures.count) in
    subst (λ l. HasSetsOf (c.args.found.now.keys ++ l) c.insert.new.self.keys)
    (followers-last (step_of s.rule) (hit_weights s.rule e.m) e.m e.rows c.args.total c.args.set last last is (sym (ap (λ b. cond b last c.args.set) (le-leb (chosen (step_of s.rule) e.m last) c.args.total over))))
    (found-inserted c.args.found.now.keys c.insert.new.self.keys last c.in_ok-insert-in-Some.ensures.updates.0)

pub returns-in_ok-insert-in-Some-2 : goal.returns-in_ok-insert-in-Some-2
returns-in_ok-insert-in-Some-2 g c =
    let s = c.args.self.now.choices in
    let e = s.profile.now in
    let last = c.in-Some.end in
    let set = c.args.set in
    let is : end_by s.rule e set ≡ Some last = sym c.ties_and_end-best.ensures.end ∙ c.in-Some.is in
    let size = end-size s.rule e set last c.m.ensures.valid.ballots c.requires is in
    let more : c.args.total < chosen (step_of s.rule) e.m last = omega (arith, size.1, c.choices.ensures, c.if-choices-total.false, ap (λ n. choices_of s.rule n (length last)) c.m.ensures.value, ap (choices_of s.rule c.m.result) c.len.ensures.count) in
    subst (λ l. HasSetsOf (c.args.found.now.keys ++ l) c.insert-in-Some-2.new.self.keys)
    (followers-last (step_of s.rule) (hit_weights s.rule e.m) e.m e.rows c.args.total set last set is (sym (ap (λ b. cond b last set) (lt-leb (chosen (step_of s.rule) e.m last) c.args.total more))))
    (found-inserted c.args.found.now.keys c.insert-in-Some-2.new.self.keys set c.in_ok-insert-in-Some-2.ensures.updates.0)

pub choices-requires-in-None : goal.choices-requires-in-None
choices-requires-in-None g c =
    let s = c.args.self.now.choices in
    omega (arith, (set-size s.rule s.profile.now.m c.args.set c.requires).0, c.len-in-None.ensures.count, c.m-in-None.ensures.value)

pub returns-in_ok-insert_each-in-None : goal.returns-in_ok-insert_each-in-None
returns-in_ok-insert_each-in-None g c =
    let s = c.args.self.now.choices in
    let e = s.profile.now in
    let set = c.args.set in
    let none : end_by s.rule e set ≡ None = sym c.ties_and_end-best.ensures.end ∙ c.in-None.is in
    let size = set-size s.rule e.m set c.requires in
    let many : c.choices-in-None.result ≡ chosen (step_of s.rule) e.m set =
    c.choices-in-None.ensures ∙ ap (λ n. choices_of s.rule n c.len-in-None.result) c.m-in-None.ensures.value ∙ ap (choices_of s.rule e.m) c.len-in-None.ensures.count ∙ sym size.1 in
    let left : c.saturating_sub-left.result ≡ c.args.total - chosen (step_of s.rule) e.m set = omega (arith, c.saturating_sub-left.ensures, many) in
    let begin : c.beginners-begin.result ≡ beginners_by s.rule e (c.args.total - chosen (step_of s.rule) e.m set) set = c.beginners-begin.ensures ∙ ap (λ n. beginners_by s.rule e n set) left in
    let are : map (change c.step.result set) c.beginners-begin.result ≡ followers_by s.rule e c.args.total set =
    ap (λ t. map (change t set) c.beginners-begin.result) c.step.ensures ∙ ap (map (change (step_of s.rule) set)) begin ∙ followers-none (step_of s.rule) (hit_weights s.rule e.m) e.m e.rows c.args.total set none in
    subst (λ l. HasSetsOf (c.args.found.now.keys ++ l) c.insert_each.new.found.keys) are c.in_ok-insert_each-in-None.ensures

pub beginners-begin-requires-clause-valid : goal.beginners-begin-requires-clause-valid
beginners-begin-requires-clause-valid g c =
    let s = c.args.self.now.choices in
    let e = s.profile.now in
    let weights = hit_weights s.rule e.m in
    subst (IsIncreasing 1 most_candidates) (sym (c.ties_and_end-best.ensures.ties c.in-None.is))
    (IsIncreasing-higher 1 e.m most_candidates (ties_by s.rule e c.args.set) c.m-in-None.ensures.valid.most (tied-increasing (step_of s.rule) weights e.m e.rows c.args.set))
