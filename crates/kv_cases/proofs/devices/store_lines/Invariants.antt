use Rattle.std.proofs.Common.{◌≢◌, None}
use Rattle.kv_cases.proofs.devices.store_lines.Given as goal

abbrev pub invariant-loop-line : goal.invariant-loop-line
invariant-loop-line l =
    (goal.iterator-loop-line).can_next l.line-iterator ×
    (goal.iterator-loop-line).is_finite l.line-iterator ×
    (l.store.chosen ≢ None)
