use Rattle.std.proofs.Common.{◌≡◌, drop}
use Rattle.kv_trees.specs.Bridge.{plain_terms, plain_prog}
use Rattle.kv_trees.specs.Variables.{terms_any, modifies}
use Rattle.kv_trees.proofs.variables.+modifies_any.Given as goal

abbrev pub invariant-modifies_some-loop-term : goal.invariant-modifies_some-loop-term
invariant-modifies_some-loop-term l =
    terms_any (λ r. modifies r l.by (plain_prog l.prog)) (plain_terms (drop l.term-index l.terms)) ≡ terms_any (λ r. modifies r l.by (plain_prog l.prog)) (plain_terms l.terms)
