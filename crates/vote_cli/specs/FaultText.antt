-- The text of a fault of the input.
use Rattle.std.specs.Prelude.{ℕ, List, ◌++◌, Option, Some, None, codes, decimal}
use Rattle.preflib_text.specs.Names.{fault_name}
use Rattle.preflib_text.specs.declared.fault.ReadFault.{ReadFault}

-- where a fault is
abbrev pub place_text : Option ℕ → List ℕ
place_text None = codes ": "
place_text (Some number) = codes " line " ++ decimal number ++ codes ": "

-- the text of a fault
abbrev pub fault_text : ReadFault → List ℕ
fault_text fault = codes "committees: input" ++ place_text fault.line ++ fault_name fault.name
