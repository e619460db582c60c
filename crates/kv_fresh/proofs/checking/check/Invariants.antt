use Rattle.std.proofs.Common.{◌≡◌, ◌+◌, ◌++◌, true, drop, map}
use Rattle.std.specs.List.{list_all}
use Rattle.kv_fresh.specs.Flats.{flat_row}
use Rattle.kv_fresh.specs.States.{rows_of, unit_state}
use Rattle.kv_fresh.specs.Work.{work_of}
use Rattle.kv_syn.specs.ProjectBridge.{plain_project, plain_unit}
use Rattle.kv_syn.specs.Readable.{is_readable_unit}
use Rattle.kv_syn.specs.Rows.{has_table_rows}
use Rattle.kv_fresh.proofs.checking.check.Given as goal

abbrev pub invariant-loop-unit : goal.invariant-loop-unit
invariant-loop-unit g l = record {
  rows : has_table_rows l.checked.table ≡ true;
  readable : list_all is_readable_unit (drop l.unit-index l.project.units) ≡ true;
  flats : l.checked.flats ++ map flat_row (map plain_unit (drop l.unit-index l.project.units)) ≡ map flat_row (plain_project l.project);
  steps : l.steps + work_of (map plain_unit (drop l.unit-index l.project.units)) ≡ l.initial.steps + work_of (plain_project l.project);
  states : l.checked.table.units ++ map unit_state (map plain_unit (drop l.unit-index l.project.units)) ≡ map unit_state (plain_project l.project);
  theorems : l.checked.table.rows ++ rows_of (map plain_unit (drop l.unit-index l.project.units)) ≡ rows_of (plain_project l.project);
}
