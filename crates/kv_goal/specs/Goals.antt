-- A goal as the sequent that it is.
use Rattle.std.specs.Prelude.{map}
use Rattle.kv_sig.specs.Sequents.{sequent}
use Rattle.kv_trees.specs.Bridge.{plain_form}
use Rattle.kv_trees.specs.Trees.{Form, Sequent}
use Rattle.kv_goal.specs.declared.goals.Goal.{Goal}
use Rattle.kv_goal.specs.declared.known.Known.{Known}

abbrev pub plain_known : Known → Form
plain_known known = plain_form known.form

abbrev pub plain_goal : Goal → Sequent
plain_goal goal = sequent (map plain_known goal.left) (map plain_known goal.right)
