use Rattle.std.proofs.Common.{◌≡◌, drop}
use Rattle.kv_flat.specs.Items.{sorts_fault}
use Rattle.kv_flat.proofs.items.check_sorts.Given as goal

abbrev pub invariant-loop-sort : goal.invariant-loop-sort
invariant-loop-sort l = sorts_fault l.sig (drop l.sort-index l.sorts) ≡ sorts_fault l.sig l.sorts
