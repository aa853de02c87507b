use Rattle.std.proofs.Common.{◌≡◌, ℕ, ◌+◌, ◌-◌, ◌<◌, ◌≤◌, ◌∙◌, true, false, List, [], sym, ap, subst, arith, inl, inr, length}
use Rattle.std.specs.HashSet.{keys}
use Rattle.std.proofs.lemmas.Bool.{cases_Bool}
use Rattle.ballot_base.specs.Lists.{IsIncreasing}
use Rattle.ballot_base.specs.CandSet.{has_member}
use Rattle.ballot_base.specs.Ballots.{Election}
use Rattle.tie_walk.specs.Sequences.{hit_weights}
use Rattle.tie_walk.specs.Steps.Choices.{step_of, choices_of, change, open_candidates}
use Rattle.sequential_winners.specs.Steps.Families.{may_be_in}
use Rattle.sequential_winners.specs.Steps.Levels.{chosen}
use Rattle.sequential_winners.specs.Steps.Questions.{family_of, finish, IsDead}
use Rattle.sequential_winners.proofs.Lists.{open-is}
use Rattle.sequential_winners.proofs.Picked.{change-increasing, chosen-change}
use Rattle.sequential_winners.proofs.QuestionLemmas.{finish-increasing, total-fits, none-dead, whole-live, between-live, between-dead, choices-left, buried, without-is, without-shorter, without-one, last-live, last-dead}
use Rattle.sequential_winners.proofs.SpanLemmas.{end-span}
use Rattle.sequential_winners.proofs.WinnerLemmas.{hit_weights-fall}
use Rattle.sequential_winners.proofs.question.Question.+leads.Goals as goal
use Rattle.sequential_winners.proofs.question.Question.+leads.Goals.{After-has_between, After-len, In-Some-first_choice}

-- whether a committee lies between the set and the last one
may : (g : _) (t : _) (c : After-has_between g t)
    → may_be_in c.args.self.now.levels.now.choices.profile.now.m c.args.self.now.levels.now.choices.profile.now.rows c.args.self.now.c c.args.self.now.set (c.args.self.now.k - length c.args.self.now.set)
    (family_of (step_of c.args.self.now.levels.now.choices.rule) c.args.from (finish (step_of c.args.self.now.levels.now.choices.rule) c.args.self.now.levels.now.choices.profile.now.m))
    ≡ c.has_between.result
may g t c =
    let q = c.args.self.now in
    let e : Election = q.levels.now.choices.profile.now in
    ap (λ f. may_be_in e.m e.rows q.c q.set (q.k - length q.set) (family_of (step_of q.levels.now.choices.rule) c.args.from f)) (sym c.finish-finish.ensures) ∙ sym c.has_between.ensures

pub has_between-requires-clause-end : goal.has_between-requires-clause-end
has_between-requires-clause-end g t c =
    let q = c.args.self.now in
    subst (IsIncreasing 1 q.levels.now.choices.profile.now.m) (sym c.finish-finish.ensures) (finish-increasing (step_of q.levels.now.choices.rule) q.levels.now.choices.profile.now.m)

pub returns-then-not-has_between-clause-none : goal.returns-then-not-has_between-clause-none
returns-then-not-has_between-clause-none g t c _ =
    let q = c.args.self.now in
    none-dead q.levels.now.choices.rule q.levels.now.choices.profile.now q.k q.fits q.c q.set q.within q.candidates q.size c.args.from c.requires.from
    (may g t (goal.at.returns-then-not-has_between-clause-none g t c).After-has_between ∙ c.if-not-has_between.true)

pub returns-then-len-self-clause-live : goal.returns-then-len-self-clause-live
returns-then-len-self-clause-live g t c _ =
    let q = c.args.self.now in
    whole-live q.levels.now.choices.rule q.levels.now.choices.profile.now q.k q.fits q.c q.set q.within q.candidates q.size c.args.from c.requires.from (sym c.len.ensures.count ∙ c.if-len-self.true)
    (may g t (goal.at.returns-then-len-self-clause-live g t c).After-has_between ∙ c.if-not-has_between.false)

-- fewer choices than all were made
more : (g : _) (t : _) (c : After-len g t) → (length c.args.from ≡ c.args.self.now.k → ⊥)
    → chosen (step_of c.args.self.now.levels.now.choices.rule) c.args.self.now.levels.now.choices.profile.now.m c.args.from < choices_of c.args.self.now.levels.now.choices.rule c.args.self.now.levels.now.choices.profile.now.m c.args.self.now.k
more g t c other =
    let q = c.args.self.now in
    choices-left q.levels.now.choices.rule q.levels.now.choices.profile.now.m q.k c.args.from q.fits c.requires.from c.requires.few other

total-is : (g : _) (t : _) (c : After-len g t) → c.choices-total.result ≡ choices_of c.args.self.now.levels.now.choices.rule c.args.self.now.levels.now.choices.profile.now.m c.args.self.now.k
total-is g t c = c.choices-total.ensures ∙ ap (λ n. choices_of c.args.self.now.levels.now.choices.rule n c.args.self.now.k) c.m.ensures.value

pub branches-begin-requires-clause-more : goal.branches-begin-requires-clause-more
branches-begin-requires-clause-more g t c =
    more g t (goal.at.branches-begin-requires-clause-more g t c).After-len (λ same. c.if-len-self.false (c.len.ensures.count ∙ same))

pub leads-requires : goal.leads-requires
leads-requires g t c κs within =
    let q = c.args.self.now in
    let e : Election = q.levels.now.choices.profile.now in
    let rule = q.levels.now.choices.rule in
    let is = c.in-Within.ensures in
    let here = (goal.at.leads-requires g t c).After-len in
    let span = end-span (step_of rule) (hit_weights rule e.m) e.m e.rows c.m.ensures.valid.ballots (hit_weights-fall rule e.m) c.args.from c.in-Within.end c.requires.from is.0 in
    let less = more g t here (λ same. c.if-len-self.false (c.len.ensures.count ∙ same)) in
    let few : chosen (step_of rule) e.m c.in-Within.end ≤ choices_of rule e.m q.k = omega (arith, is.1, total-is g t here) in
    let further = span.1 (omega (arith, less, total-fits rule e.m q.k q.fits)) in (
      omega (arith, few, less, further, c.decreases),
      (within, (span.0.increasing, (few, c.requires.dead))),
    )

pub returns-in-Within-clause-live : goal.returns-in-Within-clause-live
returns-in-Within-clause-live g t c holds =
    let q = c.args.self.now in
    let rule = q.levels.now.choices.rule in
    let here = (goal.at.returns-in-Within-clause-live g t c).After-len in
    last-live rule q.levels.now.choices.profile.now q.k q.fits q.c q.set c.m.ensures.valid.ballots c.m.ensures.valid.counts c.args.from c.requires.from (more g t here (λ same. c.if-len-self.false (c.len.ensures.count ∙ same))) c.in-Within.end c.in-Within.ensures.0
    (omega (arith, c.in-Within.ensures.1, total-is g t here)) (c.leads.ensures.live holds)

pub returns-in-Within-clause-none : goal.returns-in-Within-clause-none
returns-in-Within-clause-none g t c fails =
    let q = c.args.self.now in
    let rule = q.levels.now.choices.rule in
    let here = (goal.at.returns-in-Within-clause-none g t c).After-len in
    last-dead rule q.levels.now.choices.profile.now q.k q.fits q.c q.set c.m.ensures.valid.ballots c.m.ensures.valid.counts c.args.from c.requires.from (more g t here (λ same. c.if-len-self.false (c.len.ensures.count ∙ same))) c.in-Within.end c.in-Within.ensures.0
    (omega (arith, c.in-Within.ensures.1, total-is g t here)) (c.leads.ensures.none fails)

pub has_between-requires-in-Beyond-clause-end : goal.has_between-requires-in-Beyond-clause-end
has_between-requires-in-Beyond-clause-end g t c =
    let q = c.args.self.now in
    let e : Election = q.levels.now.choices.profile.now in
    let rule = q.levels.now.choices.rule in
    (end-span (step_of rule) (hit_weights rule e.m) e.m e.rows c.m.ensures.valid.ballots (hit_weights-fall rule e.m) c.args.from c.in-Beyond.end c.requires.from c.in-Beyond.ensures.0).0.increasing

pub returns-in-Beyond-clause-live : goal.returns-in-Beyond-clause-live
returns-in-Beyond-clause-live g t c holds =
    let q = c.args.self.now in
    between-live q.levels.now.choices.rule q.levels.now.choices.profile.now q.k q.fits q.c q.set q.within q.candidates q.size c.args.from c.requires.from c.m.ensures.valid.ballots c.requires.few c.in-Beyond.end c.in-Beyond.ensures.0
    (omega (arith, c.in-Beyond.ensures.1, total-is g t (goal.at.returns-in-Beyond-clause-live g t c).After-len)) (sym c.has_between-in-Beyond.ensures ∙ holds)

pub returns-in-Beyond-clause-none : goal.returns-in-Beyond-clause-none
returns-in-Beyond-clause-none g t c fails =
    let q = c.args.self.now in
    between-dead q.levels.now.choices.rule q.levels.now.choices.profile.now q.k q.fits q.c q.set q.within q.candidates q.size c.args.from c.requires.from c.m.ensures.valid.ballots c.requires.few c.in-Beyond.end c.in-Beyond.ensures.0
    (omega (arith, c.in-Beyond.ensures.1, total-is g t (goal.at.returns-in-Beyond-clause-none g t c).After-len)) (sym c.has_between-in-Beyond.ensures ∙ fails)

-- who is tried is one of the branches, and may be chosen
free-is : (g : _) (t : _) (c : In-Some-first_choice g t) → has_member (open_candidates (step_of c.args.self.now.levels.now.choices.rule) c.args.self.now.levels.now.choices.profile.now.m c.args.from) c.in-Some-first_choice.next ≡ true
free-is g t c = c.in-Some.ensures.branches.free c.in-Some-first_choice.next (c.loop-next.invariant.among c.in-Some-first_choice.next c.in-Some-first_choice.ensures)

pub after-after-requires-clause-low : goal.after-after-requires-clause-low
after-after-requires-clause-low g t c =
    let q = c.args.self.now in
    (open-is (step_of q.levels.now.choices.rule) q.levels.now.choices.profile.now.m c.args.from c.in-Some-first_choice.next (free-is g t (goal.at.after-after-requires-clause-low g t c).In-Some-first_choice)).0.0

pub after-after-requires-clause-high : goal.after-after-requires-clause-high
after-after-requires-clause-high g t c =
    let q = c.args.self.now in
    omega (arith, c.m.ensures.valid.most, (open-is (step_of q.levels.now.choices.rule) q.levels.now.choices.profile.now.m c.args.from c.in-Some-first_choice.next (free-is g t (goal.at.after-after-requires-clause-high g t c).In-Some-first_choice)).0.1)

pub leads-requires-in-Some-first_choice : goal.leads-requires-in-Some-first_choice
leads-requires-in-Some-first_choice g t c κs within =
    let q = c.args.self.now in
    let e : Election = q.levels.now.choices.profile.now in
    let step = step_of q.levels.now.choices.rule in
    let next = c.in-Some-first_choice.next in
    let free = free-is g t (goal.at.leads-requires-in-Some-first_choice g t c).In-Some-first_choice in
    let less = more g t (goal.at.leads-requires-in-Some-first_choice g t c).After-len (λ same. c.if-len-self.false (c.len.ensures.count ∙ same)) in
    let one : chosen step e.m c.after-after.result ≡ chosen step e.m c.args.from + 1 = ap (chosen step e.m) c.after-after.ensures ∙ chosen-change step e.m c.args.from next c.requires.from free in (
      omega (arith, less, one, c.decreases),
      (within, (subst (IsIncreasing 1 e.m) (sym c.after-after.ensures) (change-increasing step e.m c.args.from next c.requires.from free), (omega (arith, one, less), c.loop-next.invariant.dead))),
    )

pub loop-next-smaller : goal.loop-next-smaller
loop-next-smaller g t c =
    omega (arith, ap length c.without-left.ensures, without-shorter c.loop-next.left c.in-Some-first_choice.next c.in-Some-first_choice.ensures)

pub loop-next-preserved : goal.loop-next-preserved
loop-next-preserved g t c =
    let q = c.args.self.now in
    let e : Election = q.levels.now.choices.profile.now in
    let rule = q.levels.now.choices.rule in
    let inv = c.loop-next.invariant in
    let rest = c.loop-next.left in
    let next = c.in-Some-first_choice.next in record {
      dead = c.leads-in-Some-first_choice.ensures.dead;
      among = λ n is. inv.among n (without-is rest next n (subst (λ l. has_member l n ≡ true) c.without-left.ensures is));
      tried = λ n inside out. elim (cases_Bool (has_member rest n)) [
        | inl here ↦
            let same = without-one rest next n here (subst (λ l. has_member l n ≡ false) c.without-left.ensures out) in
            subst (λ x. IsDead rule e q.k q.c q.set (change (step_of rule) c.args.from x)) (sym same)
            (subst (IsDead rule e q.k q.c q.set) c.after-after.ensures (c.leads-in-Some-first_choice.ensures.none c.if-leads.false))
        | inr gone ↦ inv.tried n inside gone
      ];
    }

none-left : (list : List ℕ) (n : ℕ) → list ≡ [] → has_member list n ≡ false
none-left list n none = ap (λ l. has_member l n) none

pub returns-then-len-gt1-clause-dead : goal.returns-then-len-gt1-clause-dead
returns-then-len-gt1-clause-dead g t c =
    let q = c.args.self.now in
    let e : Election = q.levels.now.choices.profile.now in
    let rule = q.levels.now.choices.rule in
    buried keys (IsDead rule e q.k q.c q.set) c.args.from c.loop-next.dead c.bury.new.dead c.bury.ensures c.loop-next.invariant.dead
    (c.in-Some.ensures.branches.dead (λ n inside. c.loop-next.invariant.tried n inside (none-left c.loop-next.left n c.in_default-first_choice.ensures)))
