use Rattle.std.proofs.Common.{◌≡◌, ◌++◌, [], true, drop, map}
use Rattle.std.specs.List.{list_all}
use Rattle.kv_script.specs.Reasons.{reason_with}
use Rattle.kv_fresh.specs.States.{ill_row}
use Rattle.kv_syn.specs.ProjectBridge.{plain_theorem}
use Rattle.kv_syn.specs.Projects as P
use Rattle.kv_syn.specs.Rows.{has_row_rows}
use Rattle.kv_table.specs.Reasons as word
use Rattle.kv_fresh.proofs.checking.push_ill_rows.Given as goal

abbrev pub invariant-loop-theorem : goal.invariant-loop-theorem
invariant-loop-theorem l = record {
  rows : list_all has_row_rows l.rows ≡ true;
  added : l.rows ++ map (λ (theorem : P.Theorem). ill_row l.unit.name theorem.name (reason_with word.UNIT [])) (map plain_theorem (drop l.theorem-index l.unit.theorems))
      ≡ l.initial.rows ++ map (λ (theorem : P.Theorem). ill_row l.unit.name theorem.name (reason_with word.UNIT [])) (map plain_theorem l.unit.theorems);
}
