use Rattle.std.proofs.Common.{◌≡◌, drop}
use Rattle.kv_trees.specs.Bridge.{plain_terms}
use Rattle.kv_trees.specs.Variables.{raised_ref, terms_have}
use Rattle.kv_trees.proofs.variables.+term_mentions.Given as goal

abbrev pub invariant-terms_mention-loop-term : goal.invariant-terms_mention-loop-term
invariant-terms_mention-loop-term l =
    terms_have (raised_ref l.by l.var) (plain_terms (drop l.term-index l.terms)) ≡ terms_have (raised_ref l.by l.var) (plain_terms l.terms)
