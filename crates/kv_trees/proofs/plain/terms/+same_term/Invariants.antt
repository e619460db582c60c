use Rattle.std.proofs.Common.{◌≡◌, take, length}
use Rattle.kv_trees.proofs.plain.terms.+same_term.Given as goal

abbrev pub invariant-same_terms-loop-i : goal.invariant-same_terms-loop-i
invariant-same_terms-loop-i l = (length l.xs ≡ length l.ys) × (take l.i l.xs ≡ take l.i l.ys)
