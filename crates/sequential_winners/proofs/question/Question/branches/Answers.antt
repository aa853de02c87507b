use Rattle.std.proofs.Common.{◌≡◌, ◌-◌, ◌<◌, ◌*◌, ◌∙◌, Bool, true, false, sym, ap, subst, arith, length}
use Rattle.std.proofs.lemmas.Bool.{and_parts}
use Rattle.ballot_base.specs.CandSet.{has_member, other_members, with_member, without_member}
use Rattle.ballot_base.specs.Limits.{most_candidates}
use Rattle.ballot_base.specs.Lists.{IsIncreasing}
use Rattle.ballot_base.proofs.Increasing.{IsIncreasing-higher, IsIncreasing-filter, has_member-filter}
use Rattle.tie_walk.specs.Sequences.{hit_weights}
use Rattle.tie_walk.specs.Steps.Choices.{step_of, choices_of, change}
use Rattle.std.specs.Prelude.{fold, nat_lt, if◌then◌else◌}
use Rattle.sequential_winners.specs.Steps.Families.{may_be_in}
use Rattle.tie_walk.proofs.LevelLemmas.{in_bounds}
use Rattle.sequential_winners.specs.Steps.Levels.{chosen, tied_worth, ties_by, given_by, AreApartBy, HasEnoughTiedBy}
use Rattle.sequential_winners.specs.Steps.Questions.{family_of, AreBranches}
use Rattle.sequential_winners.proofs.BranchLemmas.{after-increasing, all-tied, all-branches, begun-branches, no-branches, apart-live, enough-dead, needed-branches}
use Rattle.sequential_winners.proofs.ApartLemmas.{apart-of, many-of}
use Rattle.sequential_winners.proofs.StepLemmas.{beginners-are}
use Rattle.sequential_winners.proofs.WinnerLemmas.{set-size}
use Rattle.sequential_winners.proofs.question.Question.branches.Goals as goal
use Rattle.sequential_winners.proofs.question.Question.branches.Goals.{After-len, After-after_all, After-are_many, After-give_less}

pub choices-requires : goal.choices-requires
choices-requires g c =
    let s = c.args.self.now.levels.now.choices in
    omega (arith, (set-size s.rule s.profile.now.m c.args.from c.requires.from).0, c.len.ensures.count, c.m-2.ensures.value)

-- the tied candidates rise
rise : (g : _) (c : After-len g) → IsIncreasing 1 most_candidates c.args.ties
rise g c =
    let s = c.args.self.now.levels.now.choices in
    let e = s.profile.now in
    IsIncreasing-higher 1 e.m most_candidates c.args.ties c.m.ensures.valid.most (all-tied s.rule e c.args.from c.args.ties c.requires.ties).0

pub apart-apart-requires : goal.apart-apart-requires
apart-apart-requires g c =
    subst (IsIncreasing 1 most_candidates) (sym c.common-allowed.ensures) (IsIncreasing-filter (has_member c.allowed.result) 1 most_candidates c.args.ties (rise g (goal.at.apart-apart-requires g c).After-len))

-- those who are apart
apart-are : (g : _) (c : After-after_all g) → AreApartBy c.args.self.now.levels.now.choices.rule c.args.self.now.levels.now.choices.profile.now c.args.from c.apart-apart.result
apart-are g c =
    let s = c.args.self.now.levels.now.choices in
    let e = s.profile.now in
    apart-of (step_of s.rule) (hit_weights s.rule e.m) e.rows c.args.from e.m c.m.ensures.valid.most c.args.ties c.nearness-near.result c.requires.ties c.nearness-near.ensures c.apart-apart.result c.apart-apart.ensures.rises
    (λ n inside.
    (and_parts (has_member c.allowed.result n) (has_member c.args.ties n)
    (sym (has_member-filter (has_member c.allowed.result) c.args.ties n) ∙ subst (λ l. has_member l n ≡ true) c.common-allowed.ensures (c.apart-apart.ensures.among n inside))).1)
    c.apart-apart.ensures.far

pub has_between-requires-clause-end : goal.has_between-requires-clause-end
has_between-requires-clause-end g c =
    let s = c.args.self.now.levels.now.choices in
    let are = apart-are g c in
    after-increasing s.rule s.profile.now c.args.from c.requires.from c.apart-apart.result are.increasing are.tied c.after_all.result c.after_all.ensures

pub has_between-requires-then-are_many-clause-end : goal.has_between-requires-then-are_many-clause-end
has_between-requires-then-are_many-clause-end g c =
    let s = c.args.self.now.levels.now.choices in
    let tied = all-tied s.rule s.profile.now c.args.from c.args.ties c.requires.ties in
    after-increasing s.rule s.profile.now c.args.from c.requires.from c.args.ties tied.0 tied.1 c.after_all-then-are_many.result c.after_all-then-are_many.ensures

some : (g : _) (c : After-len g) → 0 < c.args.best → 0 < tied_worth (step_of c.args.self.now.levels.now.choices.rule) (hit_weights c.args.self.now.levels.now.choices.rule c.args.self.now.levels.now.choices.profile.now.m) c.args.self.now.levels.now.choices.profile.now.m c.args.self.now.levels.now.choices.profile.now.rows c.args.from
some g c more = omega (arith, more, c.requires.best)

pub returns-then-has_between-clause-live : goal.returns-then-has_between-clause-live
returns-then-has_between-clause-live g c _ =
    let q = c.args.self.now in
    let s = q.levels.now.choices in
    let e = s.profile.now in
    apart-live s.rule e q.k q.fits q.c q.set c.m.ensures.valid.ballots c.m.ensures.valid.counts c.args.from c.requires.from c.requires.more q.within q.candidates q.size (some g (goal.at.returns-then-has_between-clause-live g c).After-len (omega (arith, c.if-best-eq0.false)))
    c.apart-apart.result (apart-are g (goal.at.returns-then-has_between-clause-live g c).After-after_all)
    (ap (λ f. may_be_in e.m e.rows q.c q.set (q.k - length q.set) (family_of (step_of s.rule) c.args.from f)) (sym c.after_all.ensures) ∙ sym c.has_between.ensures ∙ c.if-has_between.true)

-- how many choices were made, and are made in all
made-is : (g : _) (c : After-len g)
    → (choices_of c.args.self.now.levels.now.choices.rule c.m-2.result c.len.result ≡ chosen (step_of c.args.self.now.levels.now.choices.rule) c.args.self.now.levels.now.choices.profile.now.m c.args.from)
    × (c.choices-total.result ≡ choices_of c.args.self.now.levels.now.choices.rule c.args.self.now.levels.now.choices.profile.now.m c.args.self.now.k)
made-is g c =
    let q = c.args.self.now in
    let s = q.levels.now.choices in
    let e = s.profile.now in (
      ap (λ n. choices_of s.rule n c.len.result) c.m-2.ensures.value ∙ ap (choices_of s.rule e.m) c.len.ensures.count ∙ sym (set-size s.rule e.m c.args.from c.requires.from).1,
      c.choices-total.ensures ∙ ap (λ n. choices_of s.rule n q.k) c.m.ensures.value,
    )

-- enough candidates tie
enough : (g : _) (c : After-are_many g) → c.are_many.result ≡ true
    → HasEnoughTiedBy c.args.self.now.levels.now.choices.rule c.args.self.now.levels.now.choices.profile.now (choices_of c.args.self.now.levels.now.choices.rule c.args.self.now.levels.now.choices.profile.now.m c.args.self.now.k
    - chosen (step_of c.args.self.now.levels.now.choices.rule) c.args.self.now.levels.now.choices.profile.now.m c.args.from) c.args.from
enough g c is =
    let q = c.args.self.now in
    let s = q.levels.now.choices in
    let made = made-is g (goal.at.After-are_many g c).After-len in
    let left : c.saturating_sub-left.result ≡ choices_of s.rule s.profile.now.m q.k - chosen (step_of s.rule) s.profile.now.m c.args.from = omega (arith, c.saturating_sub-left.ensures, c.choices.ensures, made.0, made.1) in
    many-of (step_of s.rule) (hit_weights s.rule s.profile.now.m) s.profile.now.rows c.args.from s.profile.now.m c.m.ensures.valid.most c.args.ties c.nearness-near.result c.requires.ties c.nearness-near.ensures
    (choices_of s.rule s.profile.now.m q.k - chosen (step_of s.rule) s.profile.now.m c.args.from) c.saturating_sub.result (c.saturating_sub.ensures ∙ ap (λ n. n - 1) left) (c.are_many.ensures is)

pub returns-then-not-has_between-clause-branches : goal.returns-then-not-has_between-clause-branches
returns-then-not-has_between-clause-branches g c =
    let q = c.args.self.now in
    let s = q.levels.now.choices in
    let e = s.profile.now in
    let at = goal.at.returns-then-not-has_between-clause-branches g c in
    let none : may_be_in e.m e.rows q.c q.set (q.k - length q.set) (family_of (step_of s.rule) c.args.from (fold (change (step_of s.rule)) c.args.from (ties_by s.rule e c.args.from))) ≡ false =
    ap (λ f. may_be_in e.m e.rows q.c q.set (q.k - length q.set) (family_of (step_of s.rule) c.args.from f)) (sym (c.after_all-then-are_many.ensures ∙ ap (fold (change (step_of s.rule)) c.args.from) c.requires.ties))
    ∙ sym c.has_between-then-are_many.ensures ∙ c.if-not-has_between.true in
    subst (AreBranches s.rule e q.k q.c q.set c.args.from) (sym c.empty.ensures)
    (no-branches s.rule e q.k q.fits q.c q.set c.m.ensures.valid.ballots c.m.ensures.valid.counts c.args.from c.requires.from c.requires.more
    (enough-dead s.rule e q.k q.fits q.c q.set c.m.ensures.valid.ballots c.m.ensures.valid.counts c.args.from c.requires.from c.requires.more q.within q.candidates q.size (some g at.After-len (omega (arith, c.if-best-eq0.false)))
    (enough g at.After-are_many c.if-are_many.true) none))

pub with-requires-clause-low : goal.with-requires-clause-low
with-requires-clause-low g c = (in_bounds most_candidates c.args.ties c.in-Some.needed (rise g (goal.at.with-requires-clause-low g c).After-len) c.in-Some.ensures.0).0

pub with-requires-clause-high : goal.with-requires-clause-high
with-requires-clause-high g c = (in_bounds most_candidates c.args.ties c.in-Some.needed (rise g (goal.at.with-requires-clause-high g c).After-len) c.in-Some.ensures.0).1

pub returns-in-Some-clause-branches : goal.returns-in-Some-clause-branches
returns-in-Some-clause-branches g c =
    let q = c.args.self.now in
    let s = q.levels.now.choices in
    let e = s.profile.now in
    let n = c.in-Some.needed in
    let at = goal.at.returns-in-Some-clause-branches g c in
    subst (AreBranches s.rule e q.k q.c q.set c.args.from) (sym (c.with.ensures ∙ ap (λ l. with_member l n) c.empty-in-Some.ensures))
    (needed-branches s.rule e q.k q.fits q.c q.set c.m.ensures.valid.ballots c.m.ensures.valid.counts c.args.from c.requires.from c.requires.more q.within q.candidates q.size (some g at.After-len (omega (arith, c.if-best-eq0.false)))
    (enough g at.After-are_many c.if-are_many.true) n (subst (λ l. has_member l n ≡ true) c.requires.ties c.in-Some.ensures.0)
    (subst (λ l. may_be_in e.m e.rows q.c q.set (q.k - length q.set) (family_of (step_of s.rule) c.args.from (fold (change (step_of s.rule)) c.args.from (without_member l n))) ≡ false) c.requires.ties c.in-Some.ensures.1))

pub returns-then-best-eq0-clause-branches : goal.returns-then-best-eq0-clause-branches
returns-then-best-eq0-clause-branches g c =
    let q = c.args.self.now in
    let s = q.levels.now.choices in
    let e = s.profile.now in
    all-branches s.rule e q.k q.fits q.c q.set c.m.ensures.valid.ballots c.m.ensures.valid.counts c.args.from c.requires.from c.requires.more c.args.ties c.requires.ties

pub of-near-requires-clause-low : goal.of-near-requires-clause-low
of-near-requires-clause-low g c = (in_bounds most_candidates c.args.ties c.in-Some-centre.centre (rise g (goal.at.of-near-requires-clause-low g c).After-len) c.in-Some-centre.ensures.0).0

pub of-near-requires-clause-high : goal.of-near-requires-clause-high
of-near-requires-clause-high g c = (in_bounds most_candidates c.args.ties c.in-Some-centre.centre (rise g (goal.at.of-near-requires-clause-high g c).After-len) c.in-Some-centre.ensures.0).1

-- those near the centre, or all who tie
either : (g : _) (c : After-give_less g) (b : Bool) → c.give_less.result ≡ b
    → AreBranches c.args.self.now.levels.now.choices.rule c.args.self.now.levels.now.choices.profile.now c.args.self.now.k c.args.self.now.c c.args.self.now.set c.args.from (if b then c.of-near.result else c.args.ties)
either g c b is =
    let q = c.args.self.now in
    let s = q.levels.now.choices in
    let e = s.profile.now in
    let middle = c.in-Some-centre.centre in
    let near = c.of-near.result in
    let made = made-is g (goal.at.After-give_less g c).After-len in
    let left : c.saturating_sub-left.result ≡ choices_of s.rule e.m q.k - chosen (step_of s.rule) e.m c.args.from = omega (arith, c.saturating_sub-left.ensures, c.choices.ensures, made.0, made.1) in
    let test : nat_lt (given_by s.rule e c.args.from (other_members c.args.ties near)) (c.saturating_sub-left.result * c.args.best) ≡ b =
    sym (c.give_less.ensures ∙ ap (λ l. nat_lt (given_by s.rule e c.args.from l) (c.saturating_sub-left.result * c.args.best)) c.minus.ensures) ∙ is in
    begun-branches s.rule e q.k q.fits q.c q.set c.m.ensures.valid.ballots c.m.ensures.valid.counts c.args.from c.requires.from c.requires.more middle (subst (λ l. has_member l middle ≡ true) c.requires.ties c.in-Some-centre.ensures.0) c.saturating_sub-left.result left (if b then near else c.args.ties)
    (beginners-are (step_of s.rule) (hit_weights s.rule e.m) e.m e.rows c.saturating_sub-left.result c.args.from c.args.ties c.args.best c.requires.ties c.requires.best near middle b
    (c.of-near.ensures ∙ c.nearness-near.ensures middle c.in-Some-centre.ensures.0) test)

pub returns-then-give_less-clause-branches : goal.returns-then-give_less-clause-branches
returns-then-give_less-clause-branches g c = either g (goal.at.returns-then-give_less-clause-branches g c).After-give_less true c.if-give_less.true

pub returns-else-give_less-clause-branches : goal.returns-else-give_less-clause-branches
returns-else-give_less-clause-branches g c = either g (goal.at.returns-else-give_less-clause-branches g c).After-give_less false c.if-give_less.false
