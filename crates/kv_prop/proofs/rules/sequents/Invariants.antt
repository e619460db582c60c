use Rattle.std.proofs.Common.{◌≡◌, take, map}
use Rattle.kv_trees.specs.Bridge.{plain_sequent}
use Rattle.kv_goal.specs.Goals.{plain_goal}
use Rattle.kv_prop.proofs.rules.sequents.Given as goal

abbrev pub invariant-loop-goal : goal.invariant-loop-goal
invariant-loop-goal l = map plain_sequent l.sequents ≡ map plain_goal (take l.goal-index l.goals)
