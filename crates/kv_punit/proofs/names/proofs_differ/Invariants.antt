use Rattle.std.proofs.Common.{◌≡◌, ℕ, List, take, map}
use Rattle.std.specs.Borrow.{Bor}
use Rattle.kv_syn.specs.Projects as P
use Rattle.kv_syn.specs.ProjectBridge.{plain_proof}
use Rattle.kv_punit.proofs.names.proofs_differ.Given as goal

abbrev pub invariant-loop-proof : goal.invariant-loop-proof
invariant-loop-proof l = map (λ (n : Bor (List ℕ)). n.now) l.names.items ≡ map (λ (x : P.Proof). x.name) (map plain_proof (take l.proof-index l.proofs))
