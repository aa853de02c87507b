-- T and U as far as they are chosen, and what shows that they have no large group.
use Rattle.std.specs.Prelude.{◌≡◌, ℕ, ◌-◌, ◌*◌, ◌/◌, ◌^◌, ◌<◌, ◌≤◌, ◌&&◌, ◌++◌, Bool, true, false, List, [], ⊤, length, sum, nat_le, if◌then◌else◌}
use Rattle.ballot_base.specs.Lists.{IsIncreasing}
use Rattle.ballot_base.specs.CandSet.{has_member, with_member, without_member, common_members, other_members, includes}
use Rattle.ballot_base.specs.Ballots.{Row, Election}
use Rattle.ballot_base.specs.Worths.{AreChosen}
use Rattle.group_check.specs.declared.property.Property.{Property}
use Rattle.group_check.specs.declared.property.Property.TheVariants.{Jr, Pjr, Ejr, EjrPlus}
use Rattle.group_check.specs.declared.refutation.Choices.{Choices}
use Rattle.group_check.specs.declared.refutation.Agreement.{Agreement}
use Rattle.group_check.specs.declared.refutation.Finding.{Finding}
use Rattle.group_check.specs.declared.refutation.Finding.TheVariants.{Refuted, Peeled, Candidate, Member, Unclear}
use Rattle.group_check.specs.Report.{group_of, pair_group}
use Rattle.group_check.specs.Steps.Checking.{IsTail, is_large, is_below, is_around}

-- T of these candidates and of `left` of the pool, and any U
abbrev pub choices_of : List ℕ → ℕ → List ℕ → List ℕ → ℕ → Choices
choices_of committee level shared pool left =
    record { shared = shared; pool = pool; left = left; within = []; members = committee; room = level - 1 }

-- this T, and U of these members and of `room` of the other `members`
abbrev pub choices_beside : List ℕ → List ℕ → List ℕ → ℕ → Choices
choices_beside shared within members room =
    record { shared = shared; pool = []; left = 0; within = within; members = members; room = room }

-- a candidate joins T
abbrev pub with_candidate : Choices → ℕ → Choices
with_candidate choices n =
    record choices {
      shared = with_member choices.shared n;
      pool = without_member choices.pool n;
      left = choices.left - 1;
    }

-- a member joins U
abbrev pub with_committee_member : Choices → ℕ → Choices
with_committee_member choices n =
    record choices {
      within = with_member choices.within n;
      members = without_member choices.members n;
      room = choices.room - 1;
    }

-- no T and U of these choices have a large group
abbrev pub IsRefuted : Property → Election → List ℕ → ℕ → Choices → Type 0
IsRefuted property e committee level choices =
    (more others : List ℕ)
    → IsTail 1 e.m choices.pool choices.left more → IsTail 1 e.m choices.members choices.room others
    → is_large e committee level
    (sum (pair_group property e committee level (choices.shared ++ more, choices.within ++ others))) ≡ false

-- the pool is a set, and the members that U can take are others of the committee
pub record AreOpen (m : ℕ) (committee : List ℕ) (choices : Choices) : Type 0 where
  pub rises : IsIncreasing 1 m choices.pool
  pub among : (n : ℕ) → has_member choices.members n ≡ true → has_member committee n ≡ true
  pub apart : (n : ℕ) → has_member choices.members n ≡ true → has_member choices.within n ≡ false

-- whether a ballot approves all of T so far and, as far as U is chosen, not too many members
abbrev pub is_eligible : Property → List ℕ → ℕ → Choices → List ℕ → Bool
is_eligible Jr committee level choices ballot = is_below committee level choices.shared ballot
is_eligible Pjr committee level choices ballot =
    is_around committee choices.shared choices.within choices.members choices.room ballot
is_eligible Ejr committee level choices ballot = is_below committee level choices.shared ballot
is_eligible EjrPlus committee level choices ballot = is_below committee level choices.shared ballot

-- whether it also approves enough candidates whom T can take
abbrev pub may_belong : Property → List ℕ → ℕ → Choices → List ℕ → Bool
may_belong property committee level choices ballot =
    is_eligible property committee level choices ballot
    && nat_le choices.left (length (common_members ballot choices.pool))

-- the voters with such ballots
abbrev pub possible_voters : Property → Election → List ℕ → ℕ → Choices → List ℕ
possible_voters property e committee level choices =
    group_of (may_belong property committee level choices) e.rows

-- those of them who approve a candidate
abbrev pub supporters : Property → Election → List ℕ → ℕ → Choices → ℕ → List ℕ
supporters property e committee level choices n =
    group_of (λ ballot. may_belong property committee level choices ballot && has_member ballot n) e.rows

-- which of the candidates keep a ballot from agreeing
abbrev pub obstacles : Agreement → List ℕ → List ℕ
obstacles agreement ballot =
    if agreement.approved
    then other_members agreement.candidates ballot
    else common_members agreement.candidates ballot

-- what a candidate is charged of the votes of a row: its part if it is one of their obstacles
abbrev pub charge : Property → List ℕ → ℕ → Choices → Agreement → ℕ → Row → ℕ
charge property committee level choices agreement n row =
    let against = obstacles agreement row.0 in
    if may_belong property committee level choices row.0 && has_member against n
    then row.1 * 2 ^ 20 / length against
    else 0

-- too few voters have no obstacles but among the spared candidates, whichever they are
abbrev pub CannotAgree : Property → Election → List ℕ → ℕ → Choices → Agreement → Type 0
CannotAgree property e committee level choices agreement =
    (spared : List ℕ) → AreChosen agreement.candidates agreement.spared spared
    → is_large e committee level (sum (group_of (λ ballot. may_belong property committee level choices ballot
    && includes spared (obstacles agreement ballot)) e.rows)) ≡ false

-- what a finding says of the choices
abbrev pub IsFinding : Property → Election → List ℕ → ℕ → Choices → Finding → Type 0
IsFinding property e committee level choices Refuted = IsRefuted property e committee level choices
IsFinding property e committee level choices (Peeled pool) =
    IsIncreasing 1 e.m pool × (length pool < length choices.pool)
    × (IsRefuted property e committee level (record choices { pool = pool })
    → IsRefuted property e committee level choices)
IsFinding property e committee level choices (Candidate n) = (has_member choices.pool n ≡ true) × (1 ≤ choices.left)
IsFinding property e committee level choices (Member n) = has_member choices.members n ≡ true
IsFinding property e committee level choices Unclear = ⊤
