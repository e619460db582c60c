use Rattle.std.proofs.Common.{◌≡◌, ◌++◌, drop}
use Rattle.kv_script.proofs.looks.push_names.Given as goal

abbrev pub invariant-loop-name : goal.invariant-loop-name
invariant-loop-name l = l.names ++ drop l.name-index l.others ≡ l.initial.names ++ l.others
