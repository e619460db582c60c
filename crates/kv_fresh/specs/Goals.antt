-- What asking for a theorem's goal answers.
use Rattle.std.specs.Prelude.{◌≡◌, Result, Ok, Err}
use Rattle.kv_trees.specs.Bridge.{plain_form}
use Rattle.kv_trees.specs.Trees.{Form as FormTree}
use Rattle.kv_syn.specs.declared.outcomes.Reason.{Reason}
use Rattle.kv_trees.specs.declared.trees.Form.{Form}

-- the formula, or why it is ill
abbrev pub GoalIs : Result Form Reason → Result FormTree Reason → Type 0
GoalIs (Ok goal) wanted = wanted ≡ Ok (plain_form goal)
GoalIs (Err reason) wanted = wanted ≡ Err reason
