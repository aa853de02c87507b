-- The ballots of all voters, candidate by candidate, as bits.
use Rattle.std.specs.Prelude.{ℕ, zero, suc, true, ◌≡◌, ◌+◌, ◌*◌, ◌<◌, ◌≤◌, ◌==◌, ◌^◌, List, [], ◌∷◌, ◌++◌, length, replicate, slice_index, get_or, min, if◌then◌else◌}
use Rattle.std.specs.Int.{bit_at}
use Rattle.ballot_base.specs.Limits.{most_candidates, most_members}
use Rattle.ballot_base.specs.Lists.{IsIncreasing}
use Rattle.ballot_base.specs.CandSet.{has_member}
use Rattle.ballot_base.specs.Ballots.{Row, hits}
use Rattle.ballot_base.specs.Increments.{increments}
use Rattle.tie_walk.specs.Values.{Thiele}

-- the number of voters who share a word, and the maximum number of blocks
abbrev pub block_voters : ℕ
block_voters = 64

abbrev pub most_blocks : ℕ
most_blocks = 1024

-- each gain is below this before a block is added: all blocks together add far less
abbrev pub column_limit : ℕ
column_limit = 2 ^ 106

-- the ballots of the voters, each as often as it was cast
abbrev pub voters_of : List Row → List (List ℕ)
voters_of [] = []
voters_of (row ∷ rows) = replicate row.1 row.0 ++ voters_of rows

-- the ballot of a voter, none after the last
abbrev pub voter_ballot : List (List ℕ) → ℕ → List ℕ
voter_ballot [] v = []
voter_ballot (ballot ∷ ballots) zero = ballot
voter_ballot (ballot ∷ ballots) (suc v) = voter_ballot ballots v

-- the sum of what f gives the numbers below n
unfoldable pub total : (ℕ → ℕ) → ℕ → ℕ
total f zero = 0
total f (suc n) = f 0 + total (λ i. f (suc i)) n

-- how many voters of a block two words share
abbrev pub shared : ℕ → ℕ → ℕ
shared word other = total (λ i. min (bit_at word i) (bit_at other i)) block_voters

-- what a voter gives for a candidate who joins the set
abbrev pub given : List ℕ → List ℕ → ℕ → List ℕ → ℕ
given weights set c ballot = if has_member ballot c then slice_index weights (hits ballot set) else 0

-- to the gains of the free candidates was added what the voters of a block, who have these ballots, give
abbrev pub AreAdded : List ℕ → List ℕ → List ℕ → (ℕ → List ℕ) → List ℕ → List ℕ → Type 0
AreAdded weights set free ballot_at before after = (c : ℕ) → has_member free c ≡ true
    → slice_index after c ≡ slice_index before c + total (λ i. given weights set c (ballot_at i)) block_voters

-- 1 for a ballot that approves a member of the set, and 0 for the others
abbrev pub approves_some : List ℕ → List ℕ → ℕ
approves_some set ballot = min (hits ballot set) 1

-- for each candidate, a block holds which of its voters, who have these ballots, approve the candidate
pub record IsBlock (ballot_at : ℕ → List ℕ) (block : List ℕ) : Type 0 where
  pub rises : (i : ℕ) → IsIncreasing 1 most_candidates (ballot_at i)
  pub approves : (c i : ℕ) → i < block_voters
      → bit_at (slice_index block c) i ≡ (if has_member (ballot_at i) c then 1 else 0)

-- for each candidate, the blocks hold which of all voters approve the candidate
abbrev pub AreColumns : List (List ℕ) → List (List ℕ) → Type 0
AreColumns ballots blocks = (b c i : ℕ) → i < block_voters
    → bit_at (slice_index (get_or blocks b []) c) i
    ≡ (if has_member (voter_ballot ballots (b * block_voters + i)) c then 1 else 0)

-- for each of the first `levels` numbers of hits, the words hold which voters of a block have it
abbrev pub AreByHits : (ℕ → List ℕ) → List ℕ → ℕ → List ℕ → Type 0
AreByHits ballot_at set levels words = (h i : ℕ) → h < levels → i < block_voters
    → bit_at (slice_index words h) i ≡ (if hits (ballot_at i) set == h then 1 else 0)

-- the word before one, none before the first
abbrev pub word_before : List ℕ → ℕ → ℕ
word_before words zero = 0
word_before words (suc h) = slice_index words h

-- no weight is too large to add up, and none counts after the first `levels`
pub record AreWeights (weights : List ℕ) (levels : ℕ) : Type 0 where
  pub few : levels ≤ most_members
  pub small : (j : ℕ) → slice_index weights j < 2 ^ 44
  pub end : (j : ℕ) → levels ≤ j → slice_index weights j ≡ 0

-- each ballot is an increasing list of candidates
abbrev pub AreRising : List (List ℕ) → Type 0
AreRising ballots = (v : ℕ) → IsIncreasing 1 most_candidates (voter_ballot ballots v)

-- what is kept of an election: all its voters in blocks, and what each hit gives
pub record AreColumnsOf (tally : Thiele) (blocks : List (List ℕ)) (weights : List ℕ) : Type 0 where
  pub all : length (voters_of tally.election.rows) ≤ length blocks * block_voters
  pub columns : AreColumns (voters_of tally.election.rows) blocks
  pub weights_are : (j : ℕ) → slice_index weights j ≡ slice_index (increments tally.rule tally.k) j
