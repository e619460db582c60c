use Rattle.std.proofs.Common.{drop, map}
use Rattle.kv_fresh.proofs.Turns.{LeadsSoFar}
use Rattle.kv_syn.specs.ProjectBridge.{plain_proof}
use Rattle.kv_fresh.proofs.indexes.proofs_by_name.Given as goal

abbrev pub invariant-loop-proof : goal.invariant-loop-proof
invariant-loop-proof l = LeadsSoFar l.index (map plain_proof (drop l.proof-index l.proofs)) (map plain_proof l.proofs)
