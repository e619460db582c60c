use Rattle.std.proofs.Common.{◌≡◌, ◌+◌, drop, length}
use Rattle.std.specs.Option.{option_or, option_map}
use Rattle.kv_elab.specs.Scopes.{bound_of}
use Rattle.kv_elab.proofs.names.bound_place.Given as goal

abbrev pub invariant-loop-variable : goal.invariant-loop-variable
invariant-loop-variable l = record {
  left : l.left + l.variable-index ≡ length l.bound;
  found : option_or (bound_of (drop l.variable-index l.bound) l.name) (option_map (λ p. (p.0, p.1.now)) l.found) ≡ bound_of l.bound l.name;
}
