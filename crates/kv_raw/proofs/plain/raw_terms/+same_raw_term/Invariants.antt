use Rattle.std.proofs.Common.{◌≡◌, take, length}
use Rattle.kv_raw.proofs.plain.raw_terms.+same_raw_term.Given as goal

abbrev pub invariant-same_raw_terms-loop-i : goal.invariant-same_raw_terms-loop-i
invariant-same_raw_terms-loop-i l = (length l.xs ≡ length l.ys) × (take l.i l.xs ≡ take l.i l.ys)
