-- Tables that grow unit by unit.
use Rattle.std.specs.Prelude.{[], ◌∷◌, ◌++◌}
use Rattle.kv_flat.specs.Units.{signature_of}
use Rattle.kv_fresh.specs.States.{rows_where, theorem_rows, unit_state}
use Rattle.kv_syn.specs.Projects as P
use Rattle.kv_syn.specs.declared.outcomes.Table.{Table}

-- the table with a unit more, and of its rows only those of its theorems
abbrev pub with_theorems : Table → P.Unit → Table
with_theorems table unit = record { units = table.units ++ unit_state unit ∷ []; rows = table.rows ++ theorem_rows unit (signature_of unit) }

-- the table with a unit more
abbrev pub with_unit : Table → P.Unit → Table
with_unit table unit = record { units = table.units ++ unit_state unit ∷ []; rows = table.rows ++ rows_where unit (signature_of unit) }
