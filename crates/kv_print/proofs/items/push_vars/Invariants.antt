use Rattle.std.proofs.Common.{◌≡◌, ◌++◌, drop}
use Rattle.kv_print.specs.Items.{more_vars}
use Rattle.kv_print.specs.Pieces.{spell}
use Rattle.kv_print.proofs.items.push_vars.Given as goal

abbrev pub invariant-loop-var : goal.invariant-loop-var
invariant-loop-var l = l.text ++ spell (more_vars (drop l.var-index l.others)) ≡ l.initial.text ++ spell (more_vars l.others)
