use Rattle.std.proofs.Common.{◌≡◌, max, drop}
use Rattle.kv_trees.specs.Bridge.{plain_terms}
use Rattle.kv_subst.specs.Sizes.{terms_reach}
use Rattle.kv_parts.proofs.sizes.+reach_of_term.Given as goal

abbrev pub invariant-reach_of_terms-loop-term : goal.invariant-reach_of_terms-loop-term
invariant-reach_of_terms-loop-term l = max l.most (terms_reach (plain_terms (drop l.term-index l.terms))) ≡ terms_reach (plain_terms l.terms)
