-- What a check answers of each unit besides its state, so far of basic units: its flat.
use Rattle.std.specs.Prelude.{List, [], Result, Ok, Err}
use Rattle.kv_flat.specs.Units.{signature_of}
use Rattle.kv_flat.specs.declared.flats.FlatForm.TheVariants.{Plain}
use Rattle.kv_flat.specs.declared.flats.FlatRow.{FlatRow}
use Rattle.kv_flat.specs.declared.flats.Flattened.{Flattened}
use Rattle.kv_flat.specs.declared.flats.Judged.{Judged}
use Rattle.kv_flat.specs.declared.flats.Judged.TheVariants.{Good, Bad}
use Rattle.kv_names.specs.declared.symbols.Symbol.{Symbol}
use Rattle.kv_syn.specs.Projects as P
use Rattle.kv_syn.specs.declared.outcomes.Reason.{Reason}

-- the symbols of a unit, and nothing else
abbrev pub flat_over : List Symbol → Flattened
flat_over signature = record { flat = record { sig = signature; entries = []; gens = []; bodies = [] }; obligations = [] }

-- the flat of a good unit, or why it has none
abbrev pub judged_as : Result (List Symbol) Reason → Judged
judged_as (Ok signature) = Good (flat_over signature)
judged_as (Err fault) = Bad fault

-- a basic unit is used as it is
abbrev pub flat_row : P.Unit → FlatRow
flat_row unit = record { unit = unit.name; form = Plain; result = judged_as (signature_of unit) }
