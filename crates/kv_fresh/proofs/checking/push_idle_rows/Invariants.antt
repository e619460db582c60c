use Rattle.std.proofs.Common.{◌≡◌, ◌++◌, true, drop, map}
use Rattle.std.specs.Prelude.{filter}
use Rattle.std.specs.List.{list_all}
use Rattle.kv_fresh.specs.States.{idle_row, idle_rows, is_idle}
use Rattle.kv_syn.specs.ProjectBridge.{plain_proof, plain_theorem, plain_unit}
use Rattle.kv_syn.specs.Rows.{has_row_rows}
use Rattle.kv_fresh.proofs.checking.push_idle_rows.Given as goal

abbrev pub invariant-loop-proof : goal.invariant-loop-proof
invariant-loop-proof l = record {
  rows : list_all has_row_rows l.rows ≡ true;
  added : l.rows ++ map (idle_row l.unit.name) (filter (is_idle (map plain_theorem l.unit.theorems)) (map plain_proof (drop l.proof-index l.unit.proofs)))
      ≡ l.initial.rows ++ idle_rows (plain_unit l.unit);
}
