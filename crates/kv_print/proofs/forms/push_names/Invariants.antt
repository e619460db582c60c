use Rattle.std.proofs.Common.{◌≡◌, ◌++◌, drop}
use Rattle.kv_print.specs.Forms.{more_names}
use Rattle.kv_print.specs.Pieces.{spell}
use Rattle.kv_print.proofs.forms.push_names.Given as goal

abbrev pub invariant-loop-name : goal.invariant-loop-name
invariant-loop-name l = l.text ++ spell (more_names (drop l.name-index l.others)) ≡ l.initial.text ++ spell (more_names l.others)
