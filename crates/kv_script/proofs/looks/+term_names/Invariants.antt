use Rattle.std.proofs.Common.{◌≡◌, ◌++◌, drop}
use Rattle.kv_raw.specs.RawBridge.{raw_terms}
use Rattle.kv_elab.specs.Names.{terms_names}
use Rattle.kv_script.proofs.looks.+term_names.Given as goal

abbrev pub invariant-push_terms_names-loop-term : goal.invariant-push_terms_names-loop-term
invariant-push_terms_names-loop-term l = l.names ++ terms_names (raw_terms (drop l.term-index l.terms)) ≡ l.initial.names ++ terms_names (raw_terms l.terms)
