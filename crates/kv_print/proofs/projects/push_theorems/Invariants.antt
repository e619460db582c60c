use Rattle.std.proofs.Common.{◌≡◌, ◌++◌, drop, map}
use Rattle.std.specs.Prelude.{flat_map}
use Rattle.kv_syn.specs.ProjectBridge.{plain_theorem}
use Rattle.kv_print.specs.Layout.{theorem_pieces}
use Rattle.kv_print.specs.Pieces.{spell}
use Rattle.kv_print.proofs.projects.push_theorems.Given as goal

abbrev pub invariant-loop-theorem : goal.invariant-loop-theorem
invariant-loop-theorem l = l.text ++ spell (flat_map theorem_pieces (map plain_theorem (drop l.theorem-index l.theorems))) ≡ l.initial.text ++ spell (flat_map theorem_pieces (map plain_theorem l.theorems))
