-- The type that the name of a file gives.
use Rattle.std.specs.Prelude.{ℕ, ◌==◌, List, [], ◌∷◌, Option, Some, None, option_and_then, unwrap_or, if◌then◌else◌}
use Rattle.std.specs.Option.{option_or}
use Rattle.preflib_text.specs.declared.pick.Kind.{Kind}
use Rattle.preflib_text.specs.Names.{kind_named}

-- what follows the last of these bytes; nothing if there is none
unfoldable pub after_last : ℕ → List ℕ → Option (List ℕ)
after_last b [] = None
after_last b (c ∷ cs) = option_or (after_last b cs) (if c == b then Some cs else None)

-- the type that follows the last `.` of what follows the last `/`, in letters of any case
abbrev pub kind_in_path : List ℕ → Option Kind
kind_in_path path = option_and_then kind_named (after_last 46 (unwrap_or (after_last 47 path) path))
