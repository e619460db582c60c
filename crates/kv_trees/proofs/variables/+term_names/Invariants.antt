use Rattle.std.proofs.Common.{◌≡◌, drop}
use Rattle.kv_trees.specs.Bridge.{plain_terms}
use Rattle.kv_trees.specs.declared.trees.Ref.TheVariants.{Free}
use Rattle.kv_trees.specs.Variables.{terms_have}
use Rattle.kv_trees.proofs.variables.+term_names.Given as goal

abbrev pub invariant-terms_name-loop-term : goal.invariant-terms_name-loop-term
invariant-terms_name-loop-term l =
    terms_have (Free l.var) (plain_terms (drop l.term-index l.terms)) ≡ terms_have (Free l.var) (plain_terms l.terms)
