use Rattle.std.proofs.Common.{◌≤◌, ◌+◌, map, length}
use Rattle.kv_syn.specs.ProjectBridge.{plain_proof}
use Rattle.kv_pexpr.specs.Gives.{kinds}
use Rattle.kv_punit.specs.Ends.{NoProof}
use Rattle.kv_punit.specs.Grammar.{IsProof}
use Rattle.kv_punit.proofs.Lists.{Leads}
use Rattle.kv_punit.proofs.units.proofs.Given as goal

abbrev pub invariant-loop-turn : goal.invariant-loop-turn
invariant-loop-turn l = record {
  leads : Leads IsProof NoProof (kinds l.tokens) (map plain_proof l.proofs) (kinds l.rest);
  bound : length (kinds l.rest) + l._turn ≤ length l.tokens;
}
