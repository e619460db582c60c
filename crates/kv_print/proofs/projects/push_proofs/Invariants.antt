use Rattle.std.proofs.Common.{◌≡◌, ◌++◌, drop, map}
use Rattle.std.specs.Prelude.{flat_map}
use Rattle.kv_syn.specs.ProjectBridge.{plain_proof}
use Rattle.kv_print.specs.Layout.{proof_pieces}
use Rattle.kv_print.specs.Pieces.{spell}
use Rattle.kv_print.proofs.projects.push_proofs.Given as goal

abbrev pub invariant-loop-proof : goal.invariant-loop-proof
invariant-loop-proof l = l.text ++ spell (flat_map proof_pieces (map plain_proof (drop l.proof-index l.proofs))) ≡ l.initial.text ++ spell (flat_map proof_pieces (map plain_proof l.proofs))
