-- Least common multiples.
use Rattle.std.specs.Prelude.{ℕ, zero, suc, ◌*◌, ◌%◌, ◌==◌, ◌≤◌, find, unwrap_or}
use Rattle.std.specs.Int.{◌∣◌}
use Rattle.std.specs.List.{range_with_len}

-- the least positive multiple of a that b divides: one of a, 2·a, .. b·a
abbrev pub least_multiple : ℕ → ℕ → ℕ
least_multiple a b = a * unwrap_or (find (λ times. a * times % b == 0) (range_with_len 1 b)) b

-- the least common multiple of 1 to n, from that of 1 to n - 1
unfoldable pub common_multiple : ℕ → ℕ
common_multiple zero = 1
common_multiple (suc n) = least_multiple (common_multiple n) (suc n)

-- all of 1 to n divide the number
abbrev pub AllDivide : ℕ → ℕ → Type 0
AllDivide n number = (divisor : ℕ) → 1 ≤ divisor → divisor ≤ n → divisor ∣ number
