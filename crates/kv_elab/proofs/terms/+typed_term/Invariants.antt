use Rattle.std.proofs.Common.{◌≡◌, drop}
use Rattle.kv_raw.specs.RawBridge.{raw_terms}
use Rattle.kv_elab.specs.Elab.{elab_args}
use Rattle.kv_elab.proofs.Lists.{after}
use Rattle.kv_elab.proofs.terms.+typed_term.Given as goal

abbrev pub invariant-typed_args-loop-i : goal.invariant-typed_args-loop-i
invariant-typed_args-loop-i l = after l.typed (elab_args l.sig l.context (drop l.i l.wants) (raw_terms (drop l.i l.args))) ≡ elab_args l.sig l.context l.wants (raw_terms l.args)
