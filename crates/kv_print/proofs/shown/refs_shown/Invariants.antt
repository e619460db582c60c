use Rattle.std.proofs.Common.{◌≡◌, take, map}
use Rattle.kv_print.specs.Shown.{shown_ref}
use Rattle.kv_print.proofs.shown.refs_shown.Given as goal

abbrev pub invariant-loop-place : goal.invariant-loop-place
invariant-loop-place l = l.names ≡ map (shown_ref l.around) (take l.place-index l.refs)
