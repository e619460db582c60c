use Rattle.std.proofs.Common.{◌≡◌, drop}
use Rattle.std.specs.List.{find}
use Rattle.std.specs.Str.{bytes_eq}
use Rattle.kv_elab.proofs.names.free_place.Given as goal

abbrev pub invariant-loop-variable : goal.invariant-loop-variable
invariant-loop-variable l = find (λ x. bytes_eq x.name l.name) (drop l.variable-index l.free) ≡ find (λ x. bytes_eq x.name l.name) l.free
