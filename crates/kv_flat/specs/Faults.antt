-- What the answers on an item tell, but for want of memory.
use Rattle.std.specs.Prelude.{◌≡◌, Bool, true, List, Option, Some, None, Result, Ok, Err}
use Rattle.kv_syn.specs.Rows.{has_reason_row}
use Rattle.kv_syn.specs.declared.outcomes.Reason.{Reason}
use Rattle.kv_names.specs.declared.symbols.Symbol.{Symbol}
use Rattle.kv_flat.specs.declared.faults.FlatError.{FlatError}
use Rattle.kv_flat.specs.declared.faults.FlatError.TheVariants.{Bad, NoMemory}

-- the reason of a unit's fault is a row of the table of reasons
abbrev pub has_fault_row : FlatError → Bool
has_fault_row (Bad reason) = has_reason_row reason
has_fault_row NoMemory = true

-- that nothing is at fault, or the fault
abbrev pub Finds : Option Reason → Result (Unit {0}) FlatError → Type 0
Finds fault (Ok _) = fault ≡ None
Finds fault (Err (Bad reason)) = fault ≡ Some reason
Finds fault (Err NoMemory) = Unit {0}

-- that a signature has become what is wanted, or why there is none
abbrev pub Declares : Result (List Symbol) Reason → List Symbol → Result (Unit {0}) FlatError → Type 0
Declares wanted new (Ok _) = wanted ≡ Ok new
Declares wanted new (Err (Bad reason)) = wanted ≡ Err reason
Declares wanted new (Err NoMemory) = Unit {0}
