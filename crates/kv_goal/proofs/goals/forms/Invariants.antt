use Rattle.std.proofs.Common.{◌≡◌, take, map}
use Rattle.kv_trees.specs.Bridge.{plain_form}
use Rattle.kv_goal.specs.Goals.{plain_known}
use Rattle.kv_goal.proofs.goals.forms.Given as goal

abbrev pub invariant-loop-known : goal.invariant-loop-known
invariant-loop-known l = map plain_form l.forms ≡ map plain_known (take l.known-index l.knowns)
