-- Which ballots support T and U.
use Rattle.std.proofs.Common.{◌≡◌, ℕ, ◌&&◌, ◌⊎◌, Bool, true, List, inl, inr, sym, ap, ◌∙◌}
use Rattle.std.specs.Prelude.{nat_lt}
use Rattle.ballot_base.specs.CandSet.{common_members, includes}
use Rattle.ballot_base.specs.Ballots.{hits}
use Rattle.group_check.specs.declared.property.Property.{Property}
use Rattle.group_check.specs.declared.property.Property.TheVariants.{Jr, Pjr, Ejr, EjrPlus}
use Rattle.group_check.specs.Report.{fits_pair}

when_inside : (inside answer below : Bool) → inside ≡ true → answer ≡ below → answer ≡ (inside && below)
when_inside inside answer below e h = h ∙ ap (λ b. b && below) (sym e)

pub fits_by_hits : (property : Property) (committee : List ℕ) (level : ℕ) (shared within ballot : List ℕ) (answer : Bool)
    → (property ≡ Jr) ⊎ ((property ≡ Ejr) ⊎ (property ≡ EjrPlus)) → includes ballot shared ≡ true → answer ≡ nat_lt (hits ballot committee) level → answer ≡ fits_pair property committee level (shared, within) ballot
fits_by_hits Jr committee level shared within ballot answer which inside h = when_inside (includes ballot shared) answer (nat_lt (hits ballot committee) level) inside h
fits_by_hits Pjr committee level shared within ballot answer which inside h = elim which [ inl e ↦ cc | inr d ↦ elim d [ inl e ↦ cc | inr e ↦ cc ] ]
fits_by_hits Ejr committee level shared within ballot answer which inside h = when_inside (includes ballot shared) answer (nat_lt (hits ballot committee) level) inside h
fits_by_hits EjrPlus committee level shared within ballot answer which inside h = when_inside (includes ballot shared) answer (nat_lt (hits ballot committee) level) inside h

pub fits_by_members : (property : Property) (committee : List ℕ) (level : ℕ) (shared within ballot : List ℕ) (answer : Bool)
    → property ≡ Pjr → includes ballot shared ≡ true → answer ≡ includes within (common_members ballot committee) → answer ≡ fits_pair property committee level (shared, within) ballot
fits_by_members property committee level shared within ballot answer which inside h =
    rw which (when_inside (includes ballot shared) answer (includes within (common_members ballot committee)) inside h)
