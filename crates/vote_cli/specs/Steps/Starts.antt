-- That a start fits.
use Rattle.std.specs.Prelude.{ℕ, List, Option, Some, None}
use Rattle.std.specs.Coded.{Coded-set, Unit-prop, coded_ℕ, ×_prop}
use Rattle.ballot_base.specs.Steps.Lists.{IsIncreasing-prop}
use Rattle.tie_walk.specs.Winners.{IsStart}

-- there is at most one proof that a start fits
pub IsStart-prop : (m k : ℕ) (start : Option (List ℕ)) → IsProp (IsStart m k start)
IsStart-prop m k None = Unit-prop
IsStart-prop m k (Some set) = ×_prop (IsIncreasing-prop 1 m set) (Coded-set coded_ℕ _ _)
