use Rattle.std.proofs.Common.{◌≡◌, ℕ, List, take, map}
use Rattle.std.specs.Borrow.{Bor}
use Rattle.kv_syn.specs.Projects as P
use Rattle.kv_syn.specs.ProjectBridge.{plain_unit}
use Rattle.kv_punit.proofs.names.units_differ.Given as goal

abbrev pub invariant-loop-unit : goal.invariant-loop-unit
invariant-loop-unit l = map (λ (n : Bor (List ℕ)). n.now) l.names.items ≡ map (λ (x : P.Unit). x.name) (map plain_unit (take l.unit-index l.units))
