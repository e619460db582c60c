use Rattle.std.proofs.Common.{◌≡◌, ◌++◌, drop}
use Rattle.kv_sig.specs.FreeNames.{free_refs}
use Rattle.kv_goal.proofs.names.push_free_refs.Given as goal

abbrev pub invariant-loop-place : goal.invariant-loop-place
invariant-loop-place l = l.variables ++ free_refs (drop l.place-index l.places) ≡ l.initial.variables ++ free_refs l.places
