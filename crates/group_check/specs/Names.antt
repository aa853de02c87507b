-- The names of properties, as bytes.
use Rattle.std.specs.Prelude.{ℕ, List, [], ◌∷◌, Option, find, codes}
use Rattle.std.specs.Str.{bytes_eq}
use Rattle.group_check.specs.declared.property.Property.{Property}
use Rattle.group_check.specs.declared.property.Property.TheVariants.{Jr, Pjr, Ejr, EjrPlus}

-- the name of a property
abbrev pub property_name : Property → List ℕ
property_name Jr = codes "jr"
property_name Pjr = codes "pjr"
property_name Ejr = codes "ejr"
property_name EjrPlus = codes "ejrplus"

-- all properties
abbrev pub properties : List Property
properties = Jr ∷ Pjr ∷ Ejr ∷ EjrPlus ∷ []

-- the property that has this name, if one has
abbrev pub property_named : List ℕ → Option Property
property_named name = find (λ property. bytes_eq name (property_name property)) properties
