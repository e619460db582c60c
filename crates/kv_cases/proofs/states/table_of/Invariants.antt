use Rattle.std.proofs.Common.{◌≡◌, true}
use Rattle.kv_syn.specs.Rows.{has_table_rows}
use Rattle.kv_cases.proofs.states.table_of.Given as goal

abbrev pub invariant-loop-line : goal.invariant-loop-line
invariant-loop-line l =
    (goal.iterator-loop-line).can_next l.line-iterator ×
    (goal.iterator-loop-line).is_finite l.line-iterator ×
    (has_table_rows l.table ≡ true)
