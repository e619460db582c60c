use Rattle.std.proofs.Common.{◌≡◌, [], drop, take}
use Rattle.kv_elab.specs.Elab.{elab_refs}
use Rattle.kv_elab.proofs.Lists.{after_refs}
use Rattle.kv_elab.proofs.calls.typed_refs.Given as goal

abbrev pub invariant-loop-i : goal.invariant-loop-i
invariant-loop-i l = after_refs l.typed (elab_refs l.context (take l.i l.names) (drop l.i l.wants) (drop l.i l.names)) ≡ elab_refs l.context [] l.wants l.names
