use Rattle.std.proofs.Common.{◌≡◌, ◌-◌, [], length}
use Rattle.kv_pexpr.specs.Gives.{kinds}
use Rattle.kv_punit.specs.Parse as spec
use Rattle.kv_punit.proofs.items.some_parameters.Given as goal

abbrev pub invariant-loop-turn : goal.invariant-loop-turn
invariant-loop-turn l = spec.listed spec.parameter (length l.tokens) [] (kinds l.tokens) ≡ spec.listed spec.parameter (length l.tokens - l._turn) l.parameters (kinds l.rest)
