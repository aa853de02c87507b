use Rattle.std.proofs.lemmas.Grind.{common_steps}
use Rattle.std.proofs.Common.{◌≡◌, ℕ, ◌∙◌, ◌==◌, ◌∷◌, Bool, false, not, ap, arith, get_or, get_or-set_other, subst, sym, true}
use Rattle.std.specs.Prelude.{nat_le}
use Rattle.std.proofs.lemmas.Bool.{le-leb, lt-leb}
use Rattle.ballot_base.specs.CandSet.{has_member}
use Rattle.ballot_base.specs.Limits.{most_candidates}
use Rattle.ballot_base.proofs.Increasing.{IsIncreasing-filter}
use Rattle.ballot_base.proofs.MemberLemmas.{first-in, later-in}
use Rattle.ballot_base.proofs.Passed.{AreLeft, all-left, one-gone, one-kept, rest-up}
use Rattle.row_multipliers.proofs.CompletionLemmas.{without-is, without-not}
use Rattle.thiele_search.proofs.UncoveredLemmas.{few-set}
use Rattle.thiele_search.proofs.uncovered.keep.Goals as goal

pub bounds-gains-from : goal.bounds-gains-from
bounds-gains-from c =
    omega (arith, c.from.ensures, (rest-up most_candidates c.in-Some.candidate c.loop-candidate.candidate-iterator c.next.new.self c.in-Some.ensures.steps c.loop-candidate.invariant.rises).0)

pub loop-candidate-preserved-then-gain-least : goal.loop-candidate-preserved-then-gain-least
loop-candidate-preserved-then-gain-least c =
    let passes : ℕ → Bool = λ n. nat_le c.args.least (get_or c.args.gains.now n 0) in
    let first = c.in-Some.candidate in
    let left = c.loop-candidate.candidate-iterator in
    let rest = c.next.new.self in
    let inv = c.loop-candidate.invariant in
    let steps = c.in-Some.ensures.steps in
    let up = rest-up most_candidates first left rest steps inv.rises in
    let gain : get_or c.loop-candidate.gains c.from.result 0 ≡ get_or c.args.gains.now first 0 =
    ap (λ n. get_or c.loop-candidate.gains n 0) c.from.ensures ∙ inv.later first (first-in left rest first steps inv.rises) in
    let fails : passes first ≡ false = sym (ap (nat_le c.args.least) gain) ∙ lt-leb c.args.least (get_or c.loop-candidate.gains c.from.result 0) c.if-gain-least.true in
    let all : AreLeft passes c.args.candidates c.loop-candidate.free (first ∷ rest) =
    subst (AreLeft passes c.args.candidates c.loop-candidate.free) steps inv.each in
    rw c.without-free.ensures record {
      rises = up.1;
      set = IsIncreasing-filter (λ x. not (x == first)) 1 most_candidates c.loop-candidate.free inv.set;
      each = one-gone passes c.args.candidates c.loop-candidate.free rest first fails up.2 all;
      later = λ n is. get_or-set_other c.loop-candidate.gains c.from-then-gain-least.result n 0 0
          (λ e. let out : true ≡ false = sym is ∙ ap (has_member rest) (e ∙ c.from-then-gain-least.ensures) ∙ up.2 in cc)
          ∙ inv.later n (later-in left rest first steps inv.rises n is);
      same = λ n is. get_or-set_other c.loop-candidate.gains c.from-then-gain-least.result n 0 0 (λ e. without-not c.loop-candidate.free first n is (e ∙ c.from-then-gain-least.ensures))
          ∙ inv.same n (without-is c.loop-candidate.free first n is);
      few = few-set c.loop-candidate.gains c.from-then-gain-least.result 0 (omega arith) inv.few;
    }

pub loop-candidate-preserved-then-gain-most : goal.loop-candidate-preserved-then-gain-most
loop-candidate-preserved-then-gain-most c =
    let passes : ℕ → Bool = λ n. nat_le c.args.least (get_or c.args.gains.now n 0) in
    let first = c.in-Some.candidate in
    let left = c.loop-candidate.candidate-iterator in
    let rest = c.next.new.self in
    let inv = c.loop-candidate.invariant in
    let steps = c.in-Some.ensures.steps in
    let up = rest-up most_candidates first left rest steps inv.rises in
    let gain : get_or c.loop-candidate.gains c.from.result 0 ≡ get_or c.args.gains.now first 0 =
    ap (λ n. get_or c.loop-candidate.gains n 0) c.from.ensures ∙ inv.later first (first-in left rest first steps inv.rises) in
    let stays : passes first ≡ true = sym (ap (nat_le c.args.least) gain) ∙ le-leb c.args.least (get_or c.loop-candidate.gains c.from.result 0) (omega (arith, c.if-gain-least.false)) in
    record {
      rises = up.1;
      set = inv.set;
      each = one-kept passes c.args.candidates c.loop-candidate.free rest first stays (subst (AreLeft passes c.args.candidates c.loop-candidate.free) steps inv.each);
      later = λ n is. inv.later n (later-in left rest first steps inv.rises n is);
      same = inv.same;
      few = inv.few;
    }

pub loop-candidate-preserved : goal.loop-candidate-preserved
loop-candidate-preserved c =
    let passes : ℕ → Bool = λ n. nat_le c.args.least (get_or c.args.gains.now n 0) in
    let first = c.in-Some.candidate in
    let left = c.loop-candidate.candidate-iterator in
    let rest = c.next.new.self in
    let inv = c.loop-candidate.invariant in
    let steps = c.in-Some.ensures.steps in
    let up = rest-up most_candidates first left rest steps inv.rises in
    let gain : get_or c.loop-candidate.gains c.from.result 0 ≡ get_or c.args.gains.now first 0 =
    ap (λ n. get_or c.loop-candidate.gains n 0) c.from.ensures ∙ inv.later first (first-in left rest first steps inv.rises) in
    let stays : passes first ≡ true = sym (ap (nat_le c.args.least) gain) ∙ le-leb c.args.least (get_or c.loop-candidate.gains c.from.result 0) (omega (arith, c.if-gain-least.false)) in
    record {
      rises = up.1;
      set = inv.set;
      each = one-kept passes c.args.candidates c.loop-candidate.free rest first stays (subst (AreLeft passes c.args.candidates c.loop-candidate.free) steps inv.each);
      later = λ n is. inv.later n (later-in left rest first steps inv.rises n is);
      same = inv.same;
      few = inv.few;
    }

pub returns-clause-free : goal.returns-clause-free
returns-clause-free c =
    let passes : ℕ → Bool = λ n. nat_le c.args.least (get_or c.args.gains.now n 0) in
    grind (arith, common_steps, all-left passes c.args.candidates most_candidates c.loop-candidate.free c.members-candidate-items.ensures.valid c.loop-candidate.invariant.set, AreLeft passes c.args.candidates c.loop-candidate.free)
