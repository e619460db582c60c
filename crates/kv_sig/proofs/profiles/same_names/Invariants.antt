use Rattle.std.proofs.Common.{◌≡◌, drop}
use Rattle.kv_trees.specs.Same.{names_eq}
use Rattle.kv_sig.proofs.profiles.same_names.Given as goal

abbrev pub invariant-loop-i : goal.invariant-loop-i
invariant-loop-i l = names_eq (drop l.i l.names) (drop l.i l.others) ≡ names_eq l.names l.others
