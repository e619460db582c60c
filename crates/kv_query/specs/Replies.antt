-- The answers to queries, as texts.
use Rattle.std.specs.Prelude.{ℕ, if◌then◌else◌, List, [], ◌∷◌, ◌++◌, codes, flat_map}
use Rattle.std.specs.Str.{bytes_eq}
use Rattle.kv_print.specs.Texts.{reason_text, state_text}
use Rattle.kv_names.specs.Names.{Name}
use Rattle.kv_syn.specs.declared.outcomes.Row.{Row}
use Rattle.kv_syn.specs.declared.outcomes.State.{State}
use Rattle.kv_syn.specs.declared.outcomes.State.TheVariants.{Idle}
use Rattle.kv_syn.specs.declared.outcomes.Table.{Table}
use Rattle.kv_syn.specs.declared.outcomes.UnitState.{UnitState}
use Rattle.kv_syn.specs.declared.outcomes.UnitState.TheVariants.{Good, Refined, Unrefined, Bad}

abbrev pub unit_state_text : UnitState → List ℕ
unit_state_text Good = codes "ok"
unit_state_text Refined = codes "ok refined"
unit_state_text Unrefined = codes "ok unrefined"
unit_state_text (Bad reason) = codes "bad " ++ reason_text reason

-- the line of a unit
abbrev pub unit_line : Name × UnitState → List ℕ
unit_line unit = codes "unit " ++ unit.0 ++ codes " " ++ unit_state_text unit.1 ++ codes "\n"

-- what a row is of: a proof that is idle, or else a theorem
abbrev pub row_word : State → List ℕ
row_word Idle = codes "proof"
row_word _ = codes "theorem"

-- the line of a row
abbrev pub row_line : Row → List ℕ
row_line row = row_word row.state ++ codes " " ++ row.unit ++ codes "." ++ row.name ++ codes " " ++ state_text row.state ++ codes "\n"

-- the rows of a unit that stand at the front
abbrev pub front : Name → List Row → List Row
front unit [] = []
front unit (row ∷ rows) = if bytes_eq row.unit unit then row ∷ front unit rows else []

-- the rows behind them
abbrev pub past : Name → List Row → List Row
past unit [] = []
past unit (row ∷ rows) = if bytes_eq row.unit unit then past unit rows else row ∷ rows

-- per unit its line, then the lines of its rows
abbrev pub status_lines : List (Name × UnitState) → List Row → List ℕ
status_lines [] rows = []
status_lines (unit ∷ units) rows = unit_line unit ++ flat_map row_line (front unit.0 rows) ++ status_lines units (past unit.0 rows)

-- the answer to `status`, with its end line
abbrev pub status_text : Table → List ℕ
status_text table = status_lines table.units table.rows ++ codes ".\n"
