use Rattle.std.proofs.Common.{◌≡◌, ◌-◌, true, map, length}
use Rattle.std.specs.List.{list_all}
use Rattle.std.specs.Prelude.{[]}
use Rattle.kv_syn.specs.Readable.{is_readable_item}
use Rattle.kv_syn.specs.ProjectBridge.{plain_item}
use Rattle.kv_pexpr.specs.Gives.{kinds}
use Rattle.kv_punit.specs.Parse as spec
use Rattle.kv_punit.proofs.units.items.Given as goal

abbrev pub invariant-loop-turn : goal.invariant-loop-turn
invariant-loop-turn l = record {
  reads : spec.items (length (kinds l.tokens)) [] (kinds l.tokens) ≡ spec.items (length l.tokens - l._turn) (map plain_item l.items) (kinds l.rest);
  readable : list_all is_readable_item l.items ≡ true;
}
