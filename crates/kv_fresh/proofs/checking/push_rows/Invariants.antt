use Rattle.std.proofs.Common.{◌≡◌, ◌+◌, ◌++◌, Ok, true, drop, map}
use Rattle.std.specs.List.{list_all}
use Rattle.kv_fresh.specs.States.{row_of, theorem_rows}
use Rattle.kv_fresh.specs.Work.{theorems_work}
use Rattle.kv_syn.specs.ProjectBridge.{plain_proof, plain_theorem, plain_unit}
use Rattle.kv_syn.specs.Rows.{has_row_rows}
use Rattle.kv_fresh.proofs.checking.push_rows.Given as goal

abbrev pub invariant-loop-theorem : goal.invariant-loop-theorem
invariant-loop-theorem g l = record {
  rows : list_all has_row_rows l.rows ≡ true;
  added : l.rows ++ map (row_of l.unit.name l.flat.sig (map plain_proof l.unit.proofs)) (map plain_theorem (drop l.theorem-index l.unit.theorems))
      ≡ l.initial.rows ++ theorem_rows (plain_unit l.unit) (Ok l.flat.sig);
  steps : l.steps + theorems_work l.flat.sig (map plain_proof l.unit.proofs) (map plain_theorem (drop l.theorem-index l.unit.theorems))
      ≡ l.initial.steps + theorems_work l.flat.sig (map plain_proof l.unit.proofs) (map plain_theorem l.unit.theorems);
}
