use Rattle.std.proofs.Common.{◌≡◌, ◌++◌, drop}
use Rattle.kv_syn.specs.ScriptBridge.{plain_scripts}
use Rattle.kv_print.specs.Pieces.{spell}
use Rattle.kv_print.specs.Scripts.{other_children}
use Rattle.kv_print.proofs.scripts.+scripts.Given as goal

abbrev pub invariant-push_children-loop-child : goal.invariant-push_children-loop-child
invariant-push_children-loop-child l = l.text ++ spell (other_children (plain_scripts (drop l.child-index l.others))) ≡ l.initial.text ++ spell (other_children (plain_scripts l.others))
