-- The majorants that are kept while the ballots are passed over.
use Rattle.std.specs.Prelude.{ℕ, ◌+◌, ◌*◌, ◌<◌, List, min, get_or, Option, None, MatchOption, ⊤}
use Rattle.thiele_bounds.specs.declared.majorant.Majorant.{Majorant}
use Rattle.thiele_bounds.specs.Steps.Paired.{IsMajorantOf}

-- what the majorants are made for: what each number of hits gives, and how many candidates are to join
pub record Majorized : Type 0 where
  pub sums : List ℕ
  pub left : ℕ

-- how many numbers of hits before, and of free candidates on a ballot, have a place
abbrev pub places_before : ℕ
places_before = 8

abbrev pub places_open : ℕ
places_open = 16

-- what was made are majorants, each at its place
abbrev pub AreMajorants : List ℕ → ℕ → List (Option Majorant) → Type 0
AreMajorants sums left table = (before approved : ℕ) → before < places_before → approved < places_open
    → MatchOption (get_or table (places_open * before + approved) None) ⊤ (IsMajorantOf sums before (min left approved))
