use Rattle.std.proofs.Common.{◌≡◌, drop, length}
use Rattle.kv_trees.specs.Bridge.{plain_terms}
use Rattle.kv_trees.specs.Same.{terms_eq}
use Rattle.kv_subst.specs.Opening.{raised_terms}
use Rattle.kv_prop.proofs.replacing.+is_raised.Given as goal

abbrev pub invariant-are_raised-loop-i : goal.invariant-are_raised-loop-i
invariant-are_raised-loop-i l =
    (length l.terms ≡ length l.of)
    × (terms_eq (plain_terms (drop l.i l.terms)) (raised_terms l.by (plain_terms (drop l.i l.of))) ≡ terms_eq (plain_terms l.terms) (raised_terms l.by (plain_terms l.of)))
