-- Where the rows of a table stand unit by unit, the answer to `status` shows with each unit all rows of its name.
use Rattle.std.proofs.Common.{ℕ, ◌≡◌, Bool, true, false, List, [], ◌∷◌, ◌++◌, map, refl, ap, ◌∙◌, arith}
use Rattle.std.proofs.lemmas.Grind.{common_steps}
use Rattle.std.proofs.lemmas.Map.Keys.{IsDistinct-head, IsDistinct-tail}
use Rattle.std.proofs.lemmas.Slice.Eq.{bytes_eq-Decides}
use Rattle.std.specs.Prelude.{cond, codes, filter, flat_map}
use Rattle.std.specs.List.{AllByRecursion, IsDistinct}
use Rattle.std.specs.Str.{bytes_eq}
use Rattle.kv_names.specs.Names.{Name}
use Rattle.kv_syn.specs.declared.outcomes.Row.{Row}
use Rattle.kv_syn.specs.declared.outcomes.Table.{Table}
use Rattle.kv_syn.specs.declared.outcomes.UnitState.{UnitState}
use Rattle.kv_query.specs.Replies.{unit_line, row_line, front, past, status_lines, status_text}

-- the rows with the unit's name, wherever they stand
abbrev pub rows_of : List Row → Name → List Row
rows_of rows unit = filter (λ (row : Row). bytes_eq row.unit unit) rows

abbrev pub all_rows : List Row → List (Name × UnitState) → List Row
all_rows rows units = flat_map (λ (unit : Name × UnitState). rows_of rows unit.0) units

-- the line of a unit, and the lines of all rows with its name
abbrev pub lines_of : List Row → Name × UnitState → List ℕ
lines_of rows unit = unit_line unit ++ flat_map row_line (rows_of rows unit.0)

-- none of the rows at the front is of the unit
record Elsewhere (unit : Name) (rows : List Row) : Type 0 where
  front_is : front unit rows ≡ []
  past_is : past unit rows ≡ rows

other_way : (m n : Name) → bytes_eq m n ≡ false → bytes_eq n m ≡ false
other_way m n differ = grind (arith, common_steps, bytes_eq-Decides m n, bytes_eq-Decides n m)

of_other : (b : Bool) (unit other : Name) (row : Row) (own rest : List Row) → bytes_eq row.unit other ≡ b → bytes_eq other unit ≡ false → Elsewhere unit (own ++ rest) → Elsewhere unit (cond b (row ∷ own) own ++ rest)
of_other true unit other row own rest is differ behind =
    let no : bytes_eq row.unit unit ≡ false = ap (λ name. bytes_eq name unit) ((bytes_eq-Decides row.unit other).0 is) ∙ differ in
    record { front_is = rw no refl; past_is = rw no refl }
of_other false unit other row own rest is differ behind = behind

rows_of_other : (unit other : Name) (rows rest : List Row) → bytes_eq other unit ≡ false → Elsewhere unit rest → Elsewhere unit (rows_of rows other ++ rest)
rows_of_other unit other [] rest differ behind = behind
rows_of_other unit other (row ∷ rows) rest differ behind =
    of_other (bytes_eq row.unit other) unit other row (rows_of rows other) rest refl differ (rows_of_other unit other rows rest differ behind)

rows_of_others : (unit : Name) (rows : List Row) (units : List (Name × UnitState)) → AllByRecursion (λ other. bytes_eq unit other ≡ false) (map (λ (other : Name × UnitState). other.0) units) → Elsewhere unit (all_rows rows units)
rows_of_others unit rows [] differ = record { front_is = refl; past_is = refl }
rows_of_others unit rows (other ∷ units) differ =
    rows_of_other unit other.0 rows (all_rows rows units) (other_way unit other.0 differ.0) (rows_of_others unit rows units differ.1)

-- the rows of the unit at the front, and the rows behind them
record Parted (unit : Name) (own rest : List Row) : Type 0 where
  front_is : front unit (own ++ rest) ≡ own
  past_is : past unit (own ++ rest) ≡ rest

parted_more : (b : Bool) (unit : Name) (row : Row) (own rest : List Row) → bytes_eq row.unit unit ≡ b → Parted unit own rest → Parted unit (cond b (row ∷ own) own) rest
parted_more true unit row own rest is parted = record { front_is = rw is (ap (λ rows. row ∷ rows) parted.front_is); past_is = rw is parted.past_is }
parted_more false unit row own rest is parted = parted

parted_rows : (unit : Name) (rows rest : List Row) → Elsewhere unit rest → Parted unit (rows_of rows unit) rest
parted_rows unit [] rest behind = record { front_is = behind.front_is; past_is = behind.past_is }
parted_rows unit (row ∷ rows) rest behind =
    parted_more (bytes_eq row.unit unit) unit row (rows_of rows unit) rest refl (parted_rows unit rows rest behind)

lines_by_unit : (rows : List Row) (units : List (Name × UnitState)) → IsDistinct bytes_eq (map (λ (unit : Name × UnitState). unit.0) units) → status_lines units (all_rows rows units) ≡ flat_map (lines_of rows) units
lines_by_unit rows [] distinct = refl
lines_by_unit rows (unit ∷ units) distinct =
    let names : List Name = map (λ (other : Name × UnitState). other.0) units in
    let parted = parted_rows unit.0 rows (all_rows rows units) (rows_of_others unit.0 rows units (IsDistinct-head bytes_eq unit.0 names distinct)) in
    rw (parted.front_is, parted.past_is) (ap (λ lines. lines_of rows unit ++ lines) (lines_by_unit rows units (IsDistinct-tail bytes_eq unit.0 names distinct)))

-- the units' names are distinct, and each unit's rows stand together, in the order of the units
pub record IsOrdered (table : Table) : Type 0 where
  pub distinct : IsDistinct bytes_eq (map (λ (unit : Name × UnitState). unit.0) table.units)
  pub unit_by_unit : table.rows ≡ all_rows table.rows table.units

pub status_by_unit : (table : Table) → IsOrdered table → status_text table ≡ flat_map (lines_of table.rows) table.units ++ codes ".\n"
status_by_unit table ordered =
    ap (λ rows. status_lines table.units rows ++ codes ".\n") ordered.unit_by_unit
    ∙ ap (λ lines. lines ++ codes ".\n") (lines_by_unit table.rows table.units ordered.distinct)
