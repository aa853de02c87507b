-- The quotients by which divisor methods compare parties.
use Rattle.std.specs.Prelude.{ℕ, ◌+◌, ◌*◌, ◌==◌, Bool, true, false, nat_le, if◌then◌else◌}
use Rattle.seat_share.specs.declared.method.Method.{Method}
use Rattle.seat_share.specs.declared.method.Method.TheVariants.{Hamilton, Dhondt, SainteLague, Huntington, Adams, Dean}

-- a quotient: a dividend and a divisor, which may be 0
abbrev pub Quotient : Type 0
Quotient = ℕ × ℕ

-- The quotient for the next seat of a party that has these votes and these seats (Balinski and Young, Fair
-- Representation). Those of Huntington and Hill are squares, since their divisor is a square root. Hamilton's method is
-- not a divisor method: its line is never compared.
abbrev pub quotient : Method → ℕ → ℕ → Quotient
quotient Hamilton votes seats = (votes, 1)
quotient Dhondt votes seats = (votes, seats + 1)
quotient SainteLague votes seats = (votes, 2 * seats + 1)
quotient Huntington votes seats = (votes * votes, seats * (seats + 1))
quotient Adams votes seats = (votes, seats)
quotient Dean votes seats = (votes * (2 * seats + 1), 2 * seats * (seats + 1))

-- Whether the first is at least the second. A quotient with divisor 0 is above every other quotient. Two such quotients
-- are compared by dividend.
abbrev pub is_at_least : Quotient → Quotient → Bool
is_at_least x y =
    if x.1 == 0
    then (if y.1 == 0 then nat_le y.0 x.0 else true)
    else (if y.1 == 0 then false else nat_le (y.0 * x.1) (x.0 * y.1))
