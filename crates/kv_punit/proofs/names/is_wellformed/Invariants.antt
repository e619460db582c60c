use Rattle.std.proofs.Common.{take, map}
use Rattle.std.specs.List.{All}
use Rattle.kv_syn.specs.ProjectBridge.{plain_unit}
use Rattle.kv_punit.specs.Limits.{HasDifferentNames}
use Rattle.kv_punit.proofs.names.is_wellformed.Given as goal

abbrev pub invariant-loop-unit : goal.invariant-loop-unit
invariant-loop-unit l = All HasDifferentNames (map plain_unit (take l.unit-index l.units))
