use Rattle.std.proofs.Common.{◌≡◌, drop}
use Rattle.kv_elab.specs.Scopes.{assumed_of}
use Rattle.kv_elab.proofs.calls.assumed_profile.Given as goal

abbrev pub invariant-loop-other : goal.invariant-loop-other
invariant-loop-other l = assumed_of (drop l.other-index l.assumed) l.name ≡ assumed_of l.assumed l.name
