use Rattle.std.proofs.Common.{◌≡◌, ◌<◌, ◌+◌, ◌-◌, ◌^◌, min, drop, map}
use Rattle.kv_syn.specs.ProjectBridge.{plain_unit}
use Rattle.kv_punit.specs.Limits.{theorem_count}
use Rattle.kv_punit.proofs.limits.theorem_count.Given as goal

abbrev pub invariant-loop-unit : goal.invariant-loop-unit
invariant-loop-unit l = (l.count < 2 ^ 64) × (min (l.count + theorem_count (map plain_unit (drop l.unit-index l.units))) (2 ^ 64 - 1) ≡ min (theorem_count (map plain_unit l.units)) (2 ^ 64 - 1))
