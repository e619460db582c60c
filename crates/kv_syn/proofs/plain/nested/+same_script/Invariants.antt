use Rattle.std.proofs.Common.{◌≡◌, take, length}
use Rattle.kv_syn.proofs.plain.nested.+same_script.Given as goal

abbrev pub invariant-same_scripts-loop-i : goal.invariant-same_scripts-loop-i
invariant-same_scripts-loop-i l = (length l.xs ≡ length l.ys) × (take l.i l.xs ≡ take l.i l.ys)
