use Rattle.std.proofs.Common.{◌≤◌, max, drop}
use Rattle.kv_trees.specs.Bridge.{plain_terms}
use Rattle.kv_subst.specs.Sizes.{terms_reach}
use Rattle.kv_prop.proofs.opening.+term_within.Given as goal

abbrev pub invariant-terms_within-loop-term : goal.invariant-terms_within-loop-term
invariant-terms_within-loop-term l =
    (terms_reach (plain_terms l.terms) ≤ max l.most (terms_reach (plain_terms (drop l.term-index l.terms))))
    × (terms_reach (plain_terms (drop l.term-index l.terms)) ≤ terms_reach (plain_terms l.terms))
