use Rattle.std.proofs.Common.{◌≡◌, ◌++◌, drop}
use Rattle.kv_sig.specs.FreeNames.{free_terms}
use Rattle.kv_trees.specs.Bridge.{plain_terms}
use Rattle.kv_goal.proofs.names.+free_term.Given as goal

abbrev pub invariant-push_free_terms-loop-term : goal.invariant-push_free_terms-loop-term
invariant-push_free_terms-loop-term l = l.variables ++ free_terms (plain_terms (drop l.term-index l.terms)) ≡ l.initial.variables ++ free_terms (plain_terms l.terms)
