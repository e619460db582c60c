use Rattle.std.proofs.Common.{◌≡◌, ◌-◌, length}
use Rattle.kv_pexpr.specs.Gives.{kinds}
use Rattle.kv_pexpr.specs.Parse.{eat_name}
use Rattle.kv_punit.specs.Parse as spec
use Rattle.kv_punit.proofs.items.names.Given as goal

abbrev pub invariant-loop-turn : goal.invariant-loop-turn
invariant-loop-turn l = spec.names (kinds l.tokens) ≡ spec.listed eat_name (length l.tokens - l._turn) l.names (kinds l.rest)
