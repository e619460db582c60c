use Rattle.std.proofs.Common.{◌≡◌, ℕ, List, take, map}
use Rattle.std.specs.Borrow.{Bor}
use Rattle.kv_syn.specs.Projects as P
use Rattle.kv_syn.specs.ProjectBridge.{plain_theorem}
use Rattle.kv_punit.proofs.names.theorems_differ.Given as goal

abbrev pub invariant-loop-theorem : goal.invariant-loop-theorem
invariant-loop-theorem l = map (λ (n : Bor (List ℕ)). n.now) l.names.items ≡ map (λ (x : P.Theorem). x.name) (map plain_theorem (take l.theorem-index l.theorems))
