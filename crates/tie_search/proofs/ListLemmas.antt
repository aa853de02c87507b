-- Lists of the winners that complete a branch.
use Rattle.std.proofs.Common.{◌≡◌, ℕ, ◌<◌, ◌≤◌, List, [], Option, None, Some, ap, arith, length, subst, sym}
use Rattle.std.specs.Prelude.{MatchOption, slice_index_or}
use Rattle.ballot_base.specs.Lists.{IsIncreasing}
use Rattle.tie_walk.specs.Winners.{best_value}
use Rattle.tie_search.specs.Alike.{AreClasses, Becomes, HasClasses}
use Rattle.tie_search.specs.Tied.{AreReaching, IsAmong, IsBest}
use Rattle.tie_search.specs.Steps.Branches.{AreListedWithin, IsBarren, IsBranch, IsUnsuited, IsWinnerOf}
use Rattle.row_multipliers.specs.declared.node.Node.{Node}
use Rattle.tie_search.specs.declared.branch_list.BranchList.{BranchList}
use Rattle.tie_search.proofs.BranchLemmas.{completion-from, few-barren, winner-from}

-- no committee completes a branch of no candidates
pub nothing-within : (value : List ℕ → ℕ) (class : ℕ → List ℕ) (m k : ℕ) (list : BranchList) → 1 ≤ k → list.within.set ≡ [] → list.within.free ≡ [] → list.within.left ≡ k → length list.winners.items ≡ 0
    → AreListedWithin value class m k list
nothing-within value class m k list some set free left none = record {
  each = λ committee listed. absurd (omega (arith, listed.1, none));
  all = λ committee wins. absurd (few-barren value m k list.within empty (omega (arith, some, left, ap length free)) committee wins);
}
  where
    empty : IsBranch m k list.within
    empty = record { last = 0; within = omega arith; set_upto = rw set tt; free_after = rw free tt; size = omega (arith, left, ap length set) }

-- the completions of its node that have the highest value are the winners that complete the branch
pub all-within : (value : List ℕ → ℕ) (class : ℕ → List ℕ) (m k : ℕ) (list : BranchList) → IsBranch m k list.within
    → AreReaching value class m list.within (best_value value m k) list.winners.items → AreListedWithin value class m k list
all-within value class m k list is all = record {
  each = λ committee listed. let reaching = all.each committee listed in (winner-from value m k list.within is committee reaching.completes reaching.reaches).best;
  all = λ committee wins. all.all committee (record { completes = completion-from value m k list.within is committee wins; reaches = omega (arith, wins.best.best) });
}

-- a list stays right if only its counts change
pub same-within : (value : List ℕ → ℕ) (class : ℕ → List ℕ) (m k : ℕ) (was now : BranchList) → now.within ≡ was.within → now.winners ≡ was.winners → AreListedWithin value class m k was
    → AreListedWithin value class m k now
same-within value class m k was now within winners is = record { each = rw winners is.each; all = rw (within, winners) is.all }

-- A committee with the highest value that completes the branch becomes a listed one. So if none of these may become one
-- that completes it, there is none.
pub guess-among : (value : List ℕ → ℕ) (class : ℕ → List ℕ) (m k : ℕ) (branch : Node) (classes : List (List ℕ)) (committees : List (List ℕ)) → IsBranch m k branch → HasClasses m class classes
    → ((c : ℕ) → 1 ≤ c → c ≤ m → IsIncreasing 1 m (class c)) → AreClasses m class → ((committee : List ℕ) → IsAmong committees committee → IsBest value m k committee)
    → ((committee : List ℕ) → IsWinnerOf value m k branch committee → (other : List ℕ) × IsAmong committees other × Becomes m class other committee)
    → (answer : Option (List ℕ)) → MatchOption answer ((i : ℕ) → i < length committees → IsUnsuited branch classes (slice_index_or committees i [])) (IsAmong committees)
    → MatchOption answer (IsBarren value m k branch) (IsBest value m k)
guess-among value class m k branch classes committees is table rise agree each all None unsuited = λ committee wins.
    let like = all committee wins in
    let becomes = subst (λ l. Becomes m class l committee) (sym like.1.2) like.2 in
    let up = subst (IsIncreasing 1 m) (sym like.1.2) (each like.0 like.1).candidates in
    unsuited like.1.0 like.1.1 m k class committee is table rise agree up becomes wins.whole
guess-among value class m k branch classes committees is table rise agree each all (Some committee) listed = each committee listed
