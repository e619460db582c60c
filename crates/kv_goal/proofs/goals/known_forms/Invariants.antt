use Rattle.std.proofs.Common.{◌≡◌, take, map}
use Rattle.kv_trees.specs.Bridge.{plain_form}
use Rattle.kv_goal.specs.Goals.{plain_known}
use Rattle.kv_goal.proofs.goals.known_forms.Given as goal

abbrev pub invariant-loop-form : goal.invariant-loop-form
invariant-loop-form l = map plain_known l.knowns ≡ map plain_form (take l.form-index l.forms)
