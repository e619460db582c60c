use Rattle.std.proofs.Common.{◌≤◌, ◌+◌, map, length}
use Rattle.kv_syn.specs.ProjectBridge.{plain_theorem}
use Rattle.kv_pexpr.specs.Gives.{kinds}
use Rattle.kv_punit.specs.Ends.{NoTheorem}
use Rattle.kv_punit.specs.Grammar.{IsTheorem}
use Rattle.kv_punit.proofs.Lists.{Leads}
use Rattle.kv_punit.proofs.units.theorems.Given as goal

abbrev pub invariant-loop-turn : goal.invariant-loop-turn
invariant-loop-turn l = record {
  leads : Leads IsTheorem NoTheorem (kinds l.tokens) (map plain_theorem l.theorems) (kinds l.rest);
  bound : length (kinds l.rest) + l._turn ≤ length l.tokens;
}
