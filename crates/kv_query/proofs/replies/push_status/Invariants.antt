use Rattle.std.proofs.Common.{◌≡◌, ◌++◌, true, drop}
use Rattle.std.specs.List.{list_all}
use Rattle.kv_query.specs.Replies.{status_lines}
use Rattle.kv_names.specs.Names.{Name}
use Rattle.kv_syn.specs.declared.outcomes.UnitState.{UnitState}
use Rattle.kv_syn.specs.Rows.{has_row_rows, has_unit_state_rows}
use Rattle.kv_query.proofs.replies.push_status.Given as goal

abbrev pub invariant-loop-name : goal.invariant-loop-name
invariant-loop-name l = record {
  units : list_all (λ (unit : Name × UnitState). has_unit_state_rows unit.1) (drop l.name-index l.table.units) ≡ true;
  rows : list_all has_row_rows l.rows ≡ true;
  text : l.text ++ status_lines (drop l.name-index l.table.units) l.rows ≡ l.fn.text ++ status_lines l.table.units l.table.rows;
}
