use Rattle.std.proofs.Common.{◌≡◌, ◌++◌, drop, map}
use Rattle.kv_goal.specs.ByName.{procedures_each}
use Rattle.kv_goal.specs.Goals.{plain_known}
use Rattle.kv_goal.proofs.goals.push_procedures.Given as goal

abbrev pub invariant-loop-known : goal.invariant-loop-known
invariant-loop-known l = l.all ++ procedures_each (map plain_known (drop l.known-index l.knowns)) ≡ l.initial.all ++ procedures_each (map plain_known l.knowns)
