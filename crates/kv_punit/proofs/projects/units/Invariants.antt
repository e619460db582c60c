use Rattle.std.proofs.Common.{◌≡◌, ◌≤◌, ◌+◌, true, map, length}
use Rattle.std.specs.List.{list_all}
use Rattle.kv_syn.specs.ProjectBridge.{plain_unit}
use Rattle.kv_syn.specs.Readable.{is_readable_unit}
use Rattle.kv_pexpr.specs.Gives.{kinds}
use Rattle.kv_punit.specs.Grammar.{IsUnit}
use Rattle.kv_punit.proofs.Lists.{Leads}
use Rattle.kv_punit.proofs.Runs.{NoMore}
use Rattle.kv_punit.proofs.projects.units.Given as goal

abbrev pub invariant-loop-turn : goal.invariant-loop-turn
invariant-loop-turn l = record {
  leads : Leads IsUnit NoMore (kinds l.tokens) (map plain_unit l.units) (kinds l.rest);
  bound : length (kinds l.rest) + l._turn ≤ length l.tokens;
  readable : list_all is_readable_unit l.units ≡ true;
}
