use Rattle.std.proofs.Common.{drop, map}
use Rattle.kv_fresh.proofs.Turns.{NamesSoFar}
use Rattle.kv_syn.specs.ProjectBridge.{plain_theorem}
use Rattle.kv_fresh.proofs.indexes.theorem_names.Given as goal

abbrev pub invariant-loop-theorem : goal.invariant-loop-theorem
invariant-loop-theorem l = NamesSoFar l.names (map plain_theorem (drop l.theorem-index l.theorems)) (map plain_theorem l.theorems)
