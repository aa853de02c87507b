use Rattle.std.proofs.Common.{◌≡◌, ℕ, ◌≤◌, ◌∙◌, Bool, true, false, not, List, [], refl, sym, ap, arith, inl, inr, get_or}
use Rattle.std.specs.List.{range_with_len}
use Rattle.std.proofs.lemmas.Bool.{and_from, and_parts, cases_Bool}
use Rattle.std.proofs.lemmas.List.{get_or_default}
use Rattle.ballot_base.specs.CandSet.{has_member, other_members}
use Rattle.ballot_base.specs.Clones.{are_clones, clones_among}
use Rattle.ballot_base.specs.Ballots.{Row}
use Rattle.ballot_base.proofs.Increasing.{has_member-filter}
use Rattle.tie_walk.proofs.StepLemmas.{has_member-range}
use Rattle.row_multipliers.proofs.CompletionLemmas.{member-high, member-low}
use Rattle.thiele_search.specs.Steps.Dominance.{IsDominance}
use Rattle.thiele_search.proofs.DominanceLemmas.{value-rises}
use Rattle.thiele_search.proofs.search.ThieleSearchNarrowing.dominated.Goals as goal

-- who is not in the class is not a clone
not-clones : (m : ℕ) (rows : List Row) (c d : ℕ) → 1 ≤ d → d ≤ m → has_member (clones_among m rows c) d ≡ false → are_clones rows c d ≡ false
not-clones m rows c d low high out = elim (cases_Bool (are_clones rows c d)) [
  | inl are ↦ absurd (
      let in_ : has_member (clones_among m rows c) d ≡ true =
      has_member-filter (are_clones rows c) (range_with_len 1 m) d ∙ and_from (are_clones rows c d) (has_member (range_with_len 1 m) d) are (has_member-range 1 m d low (omega (arith, high))) in
      let e : true ≡ false = sym in_ ∙ out in cc)
  | inr other ↦ other
]

pub listed : goal.listed
listed g c =
    let sound = rw c.self.view_is at c.self.inside.counts.sound in
    omega (arith, c.from-4.ensures, sound.election.most, member-high 1 c.args.self.now.election.m c.args.node.now.free c.args.tried c.requires.is_node.free_within c.requires.tried)

pub bounds-dominance-from : goal.bounds-dominance-from
bounds-dominance-from g c =
    let sound = rw c.self.view_is at c.self.inside.counts.sound in
    omega (arith, c.from-4.ensures, sound.election.most, member-high 1 c.args.self.now.election.m c.args.node.now.free c.args.tried c.requires.is_node.free_within c.requires.tried)

pub class-requires : goal.class-requires
class-requires g c =
    let sound = rw c.self.view_is at c.self.inside.counts.sound in
    omega (arith, sound.election.most, member-high 1 c.args.self.now.election.m c.args.node.now.free c.args.tried c.requires.is_node.free_within c.requires.tried)

pub returns : goal.returns
returns g c n is committee whole here out =
    let tally = c.args.self.now in
    let m = tally.election.m in
    let node = c.args.node.now in
    let tried = c.args.tried in
    let aids = rw c.self.view_is at c.self.invariant in
    let sound = rw c.self.view_is at c.self.inside.counts.sound in
    let dominance : IsDominance tally c.in-Some.dominance = rw c.in-Some.is at aids.dominance in
    let low : 1 ≤ tried = member-low 1 m node.free tried c.requires.is_node.free_within c.requires.tried in
    let high : tried ≤ m = member-high 1 m node.free tried c.requires.is_node.free_within c.requires.tried in
    let followers = get_or c.in-Some.dominance.followers tried [] in
    let index : get_or c.in-Some.dominance.followers c.from-4.result c.index-dominance-from.result ≡ followers =
    get_or_default c.in-Some.dominance.followers c.from-4.result c.index-dominance-from.result [] (omega (arith, c.from-4.ensures, sound.election.most, high))
    ∙ ap (λ i. get_or c.in-Some.dominance.followers i []) c.from-4.ensures in
    let parts : (not (has_member c.class.result n) ≡ true) × (has_member followers n ≡ true) = and_parts (not (has_member c.class.result n)) (has_member followers n)
    (sym (has_member-filter (λ x. not (has_member c.class.result x)) followers n) ∙ ap (λ l. has_member l n) (sym (c.minus.ensures ∙ ap (λ s. other_members s c.class.result) index)) ∙ is) in
    let class : c.class.result ≡ clones_among m tally.election.rows tried = c.class.ensures ∙ aids.clones tried low high in
    value-rises tally sound.election dominance.adds committee tried n whole.candidates
    (omega (arith, whole.size, dominance.k_is, c.if-from.false, c.from.ensures, c.from-2.ensures, c.from-3.ensures, c.len.ensures.count))
    here out (dominance.followers tried n low high parts.1)
    (not-clones m tally.election.rows tried n (member-low 1 m committee n whole.candidates here) (member-high 1 m committee n whole.candidates here)
    (ap (λ l. has_member l n) (sym class) ∙ not-true (has_member c.class.result n) parts.0))
  where
    not-true : (b : Bool) → not b ≡ true → b ≡ false
    not-true true h = sym h
    not-true false h = refl
