-- Free candidates of whom all are who join.
use Rattle.std.proofs.Common.{◌≡◌, ℕ, ◌≤◌, ◌&&◌, ◌∙◌, true, List, Option, None, Some, ap, arith, inl, inr, sum_by}
use Rattle.std.specs.Prelude.{MatchOption}
use Rattle.std.proofs.lemmas.Bool.{cases_lt}
use Rattle.ballot_base.specs.CandSet.{common_members, has_member}
use Rattle.ballot_base.specs.Limits.{most_candidates}
use Rattle.ballot_base.specs.Lists.{IsIncreasing}
use Rattle.ballot_base.specs.Worths.{AreChosen, AreTooLow, AreWanted}
use Rattle.ballot_base.proofs.Increasing.{IsIncreasing-higher, has_member-filter}
use Rattle.row_multipliers.specs.Completions.{IsNode, IsCompletion, IsOutOfReach}
use Rattle.row_multipliers.specs.Steps.Narrowed.{IsNarrowed, Narrows}
use Rattle.row_multipliers.specs.declared.node.Node.{Node}
use Rattle.row_multipliers.proofs.CompletionLemmas.{added-free, added-increasing, added-size, or-more}
use Rattle.row_multipliers.proofs.SearchLemmas.{none-left}

-- the free candidates who stay are all whom a committee adds that reaches the value
pub narrowed-by : (value : List ℕ → ℕ) (m : ℕ) (set free : List ℕ) (left least : ℕ) (kept : List ℕ) → IsNode m set free → IsIncreasing 1 m kept
    → ((n : ℕ) → has_member kept n ≡ true → has_member free n ≡ true)
    → ((committee : List ℕ) → IsCompletion m set free left committee → least ≤ value committee → (n : ℕ) → has_member committee n ≡ true → has_member free n ≡ true → has_member kept n ≡ true)
    → IsNarrowed value m set free left least kept
narrowed-by value m set free left least kept is_node rises among still = record {
  is_node = record {
    set_within = is_node.set_within;
    free_within = rises;
    apart = λ n h. is_node.apart n (among n h);
  };
  among = among;
  kept = λ committee whole reaches. record {
    candidates = whole.candidates;
    whole = whole.whole;
    within = λ n h. or-more (has_member set n) (has_member free n) (has_member kept n) (still committee whole reaches n h) (whole.within n h);
    size = whole.size;
  };
}

-- all are free at first
pub narrowed-none : (value : List ℕ → ℕ) (m : ℕ) (set free : List ℕ) (left least : ℕ) → IsNode m set free → IsNarrowed value m set free left least free
narrowed-none value m set free left least is_node = record {
  is_node = is_node;
  among = λ n h. h;
  kept = λ committee whole reaches. whole;
}

module _ (value : List ℕ → ℕ) (m : ℕ) (set free rest : List ℕ) (left least : ℕ) (narrowed : IsNarrowed value m set free left least rest) where
  pub narrowed-more : (fewer : List ℕ) → IsNarrowed value m set rest left least fewer → IsNarrowed value m set free left least fewer
  narrowed-more fewer more = record {
    is_node = more.is_node;
    among = λ n h. narrowed.among n (more.among n h);
    kept = λ committee whole reaches. more.kept committee (narrowed.kept committee whole reaches) reaches;
  }

  pub narrowed-out : IsOutOfReach value m set rest left least → IsOutOfReach value m set free left least
  narrowed-out none = none-left value m set left least free rest narrowed.kept none

-- who can still join a node after a round
pub narrowed-round : (value : List ℕ → ℕ) (m : ℕ) (node here : Node) (least : ℕ) → here.set ≡ node.set → here.left ≡ node.left → IsNarrowed value m node.set node.free node.left least here.free
    → (answer : Option (List ℕ)) → Narrows value m here least answer → Narrows value m node least answer
narrowed-round value m node here least set_is left_is narrowed None none = narrowed-out value m node.set node.free here.free node.left least narrowed (rw (set_is, left_is) at none)
narrowed-round value m node here least set_is left_is narrowed (Some kept) fewer = narrowed-more value m node.set node.free here.free node.left least narrowed kept (rw (set_is, left_is) at fewer)

-- where those whom a committee adds that reaches the value are worth so much together, members for so much narrow
module _ (value : List ℕ → ℕ) (m : ℕ) (set free : List ℕ) (left least : ℕ) (worth : ℕ → ℕ) (due : ℕ) (few : m ≤ most_candidates) (is_node : IsNode m set free)
    (pays : (committee : List ℕ) → IsCompletion m set free left committee → least ≤ value committee → due ≤ sum_by worth (common_members free committee)) where
  added-chosen : (committee : List ℕ) → IsCompletion m set free left committee → AreChosen free left (common_members free committee)
  added-chosen committee whole = record {
    rises = IsIncreasing-higher 1 m most_candidates (common_members free committee) few (added-increasing m set free left committee is_node whole);
    among = added-free m set free left committee is_node whole;
    few = added-size m set free left committee is_node whole;
  }

  pub narrowed-members : (answer : Option (List ℕ)) → MatchOption answer (AreTooLow worth free left due) (AreWanted worth free left due)
      → MatchOption answer (IsOutOfReach value m set free left least) (IsNarrowed value m set free left least)
  narrowed-members None low = λ committee whole. elim (cases_lt (value committee) least) [
    | inl under ↦ under
    | inr reaches ↦ absurd (omega (arith, low (common_members free committee) (added-chosen committee whole), pays committee whole (omega arith)))
  ]
  narrowed-members (Some kept) wanted = narrowed-by value m set free left least kept is_node (wanted.rises m is_node.free_within) wanted.among
      (λ committee whole reaches n in_ open_.
      wanted.all (common_members free committee) (added-chosen committee whole) (pays committee whole reaches) n
      (has_member-filter (has_member committee) free n ∙ ap (λ b. b && has_member free n) in_ ∙ open_))
