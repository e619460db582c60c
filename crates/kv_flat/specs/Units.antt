-- What the theorems of a unit see, so far for basic units.
use Rattle.std.specs.Prelude.{◌≡◌, List, [], Result, Ok, Err}
use Rattle.kv_syn.specs.Projects as P
use Rattle.kv_syn.specs.declared.outcomes.Reason.{Reason}
use Rattle.kv_names.specs.declared.symbols.Symbol.{Symbol}
use Rattle.kv_flat.specs.Items.{with_items}
use Rattle.kv_flat.specs.declared.flats.Flattened.{Flattened}
use Rattle.kv_flat.specs.declared.faults.FlatError.{FlatError}
use Rattle.kv_flat.specs.declared.faults.FlatError.TheVariants as fault

abbrev pub items_of : P.Kind → List P.Item
items_of (P.Kind.Basic items) = items
items_of _ = []

-- the signature of a unit, or its first fault
abbrev pub signature_of : P.Unit → Result (List Symbol) Reason
signature_of unit = with_items (Ok []) (items_of unit.kind)

-- what is answered: the signature and nothing else, or the fault, but for want of memory
abbrev pub Flattens : Result (List Symbol) Reason → Result Flattened FlatError → Type 0
Flattens signature (Ok f) = (signature ≡ Ok f.flat.sig) × (f.flat.entries ≡ []) × (f.flat.gens ≡ []) × (f.flat.bodies ≡ []) × (f.obligations ≡ [])
Flattens signature (Err (fault.Bad reason)) = signature ≡ Err reason
Flattens signature (Err fault.NoMemory) = Unit {0}
