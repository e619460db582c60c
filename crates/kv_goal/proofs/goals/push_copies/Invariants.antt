use Rattle.std.proofs.Common.{◌≡◌, ◌++◌, take}
use Rattle.kv_goal.proofs.goals.push_copies.Given as goal

abbrev pub invariant-loop-item : goal.invariant-loop-item
invariant-loop-item g l = l.all ≡ l.initial.all ++ take l.item-index l.items
