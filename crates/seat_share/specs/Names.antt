-- The names of methods and of faults, as bytes.
use Rattle.std.specs.Prelude.{ℕ, List, [], ◌∷◌, Option, find, codes}
use Rattle.std.specs.Str.{bytes_eq}
use Rattle.seat_share.specs.declared.method.Method.{Method}
use Rattle.seat_share.specs.declared.method.Method.TheVariants.{Hamilton, Dhondt, SainteLague, Huntington, Adams, Dean}
use Rattle.seat_share.specs.declared.method.ShareFault.{ShareFault}
use Rattle.seat_share.specs.declared.method.ShareFault.TheVariants.{NoParties, TooManyParties, NoVotes}
use Rattle.seat_share.specs.declared.method.ShareFault.TheVariants.{TooManyVotes, BadSeats, AfterLength}

-- the name of a method
abbrev pub method_name : Method → List ℕ
method_name Hamilton = codes "hamilton"
method_name Dhondt = codes "dhondt"
method_name SainteLague = codes "saintelague"
method_name Huntington = codes "huntington"
method_name Adams = codes "adams"
method_name Dean = codes "dean"

-- all methods
abbrev pub methods : List Method
methods = Hamilton ∷ Dhondt ∷ SainteLague ∷ Huntington ∷ Adams ∷ Dean ∷ []

-- the method with this name, if there is one
abbrev pub method_named : List ℕ → Option Method
method_named name = find (λ method. bytes_eq name (method_name method)) methods

-- the name of a fault
abbrev pub share_fault_name : ShareFault → List ℕ
share_fault_name NoParties = codes "NoParties"
share_fault_name TooManyParties = codes "TooManyParties"
share_fault_name NoVotes = codes "NoVotes"
share_fault_name TooManyVotes = codes "TooManyVotes"
share_fault_name BadSeats = codes "BadSeats"
share_fault_name AfterLength = codes "AfterLength"
