use Rattle.std.proofs.lemmas.Grind.{common_steps}
use Rattle.std.proofs.Common.{◌≡◌, ℕ, ◌&&◌, ◌||◌, ◌∙◌, ◌∷◌, Bool, true, false, not, [], refl, sym, ap, subst, arith, get_or, filter, ◌-◌, ◌==◌}
use Rattle.std.specs.List.{range_with_len}
use Rattle.ballot_base.specs.Limits.{most_candidates}
use Rattle.ballot_base.specs.CandSet.{has_member, common_members, members_upto}
use Rattle.ballot_base.proofs.Increasing.{IsIncreasing-filter, has_member-filter, has_member_head}
use Rattle.ballot_base.proofs.Passed.{AreLeft, all-left, one-gone, one-kept, rest-up}
use Rattle.tie_walk.specs.Sequences.{hit_weights}
use Rattle.tie_walk.specs.Steps.Choices.{step_of, tied_by, is_choice}
use Rattle.tie_walk.proofs.LawLemmas.{IsIncreasing-range}
use Rattle.tie_walk.proofs.LevelLemmas.{in_bounds}
use Rattle.ballot_base.specs.Clones.{clones_among}
use Rattle.std.proofs.lemmas.Bool.{and_parts, or_right}
use Rattle.sequential_winners.specs.Steps.Levels.{is_first_open}
use Rattle.sequential_winners.proofs.StepLemmas.{first-free, firsts-are}
use Rattle.sequential_winners.proofs.levels.Levels.firsts.Goals as goal
use Rattle.sequential_winners.proofs.levels.Levels.firsts.Goals.{After-is_empty}

all-there : (b x : Bool) → b ≡ (b && (b || x))
all-there true x = refl
all-there false x = refl

-- whether the candidate is the first of its clones that may be chosen
first-is : (g : _) (c : After-is_empty g) → is_first_open (step_of c.args.self.now.choices.rule) (get_or c.args.self.now.clones c.in-Some.c []) c.args.set c.in-Some.c ≡ c.is_empty.result
first-is g c =
    let s = c.args.self.now.choices in
    let e = s.profile.now in
    let step = step_of s.rule in
    let weights = hit_weights s.rule e.m in
    let set = c.args.set in
    let k = c.in-Some.c in
    let here : has_member c.args.tied k ≡ true = c.loop-c.invariant.inside k (subst (λ l. has_member l k ≡ true) (sym c.in-Some.ensures.steps) (has_member_head k c.next.new.self)) in
    let parts = and_parts (is_choice step weights e.m e.rows set k) (has_member (range_with_len 1 e.m) k) (sym (has_member-filter (is_choice step weights e.m e.rows set) (range_with_len 1 e.m) k) ∙ subst (λ l. has_member l k ≡ true) c.requires here) in
    let bounds = in_bounds e.m (range_with_len 1 e.m) k (IsIncreasing-range 1 e.m e.m (omega arith)) parts.1 in
    let class : get_or c.args.self.now.clones k [] ≡ clones_among e.m e.rows k = c.args.self.now.classes k bounds.0 bounds.1 in
    let low : c.upto.result ≡ members_upto (common_members (clones_among e.m e.rows k) (tied_by s.rule e set)) (k - 1) =
    rw (c.upto.ensures, c.common.ensures, c.class.ensures, class, c.requires) in
    ap (λ l. is_first_open step l set k) class
    ∙ first-free step weights e.m e.rows set k c.is_empty.result parts.0 (λ is. sym low ∙ c.is_empty.ensures.0 is, λ empty. c.is_empty.ensures.1 (low ∙ empty))

pub loop-c-init : goal.loop-c-init
loop-c-init g c = grind (arith, common_steps, AreLeft, all-there)

pub class-requires : goal.class-requires
class-requires g c = (rest-up most_candidates c.in-Some.c c.loop-c.c-iterator c.next.new.self c.in-Some.ensures.steps c.loop-c.invariant.rises).0

pub upto-requires : goal.upto-requires
upto-requires g c = omega (arith, (rest-up most_candidates c.in-Some.c c.loop-c.c-iterator c.next.new.self c.in-Some.ensures.steps c.loop-c.invariant.rises).0)

pub loop-c-preserved-then-not-is_empty : goal.loop-c-preserved-then-not-is_empty
loop-c-preserved-then-not-is_empty g c =
    let s = c.args.self.now.choices in
    let passes : ℕ → Bool = λ n. is_first_open (step_of s.rule) (get_or c.args.self.now.clones n []) c.args.set n in
    let first = c.in-Some.c in
    let rest = c.next.new.self in
    let next = rest-up most_candidates first c.loop-c.c-iterator rest c.in-Some.ensures.steps c.loop-c.invariant.rises in
    let left : AreLeft passes c.args.tied c.loop-c.firsts (first ∷ rest) = subst (AreLeft passes c.args.tied c.loop-c.firsts) c.in-Some.ensures.steps c.loop-c.invariant.each in
    rw c.without-firsts.ensures record {
      rises = next.1;
      inside = λ n here. c.loop-c.invariant.inside n (subst (λ l. has_member l n ≡ true) (sym c.in-Some.ensures.steps) (or_right (first == n) (has_member rest n) here));
      set = IsIncreasing-filter (λ x. not (x == first)) 1 most_candidates c.loop-c.firsts c.loop-c.invariant.set;
      each = one-gone passes c.args.tied c.loop-c.firsts rest first (first-is g (goal.at.loop-c-preserved-then-not-is_empty g c).After-is_empty ∙ c.if-not-is_empty.true) next.2 left;
    }

pub loop-c-preserved : goal.loop-c-preserved
loop-c-preserved g c = let is = first-is g (goal.at.loop-c-preserved g c).After-is_empty in grind (arith, common_steps, rest-up, or_right, AreLeft, one-kept)

pub returns : goal.returns
returns g c =
    let s = c.args.self.now.choices in
    let e = s.profile.now in
    let passes : ℕ → Bool = λ n. is_first_open (step_of s.rule) (get_or c.args.self.now.clones n []) c.args.set n in
    all-left passes c.args.tied most_candidates c.loop-c.firsts c.members-c-items.ensures.valid c.loop-c.invariant.set (subst (AreLeft passes c.args.tied c.loop-c.firsts) c.in-None.ensures.steps.0 c.loop-c.invariant.each)
    ∙ ap (filter passes) c.requires ∙ firsts-are (step_of s.rule) (hit_weights s.rule e.m) e.m e.rows c.args.set c.args.self.now.clones c.args.self.now.classes
