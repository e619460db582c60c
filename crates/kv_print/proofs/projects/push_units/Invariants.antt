use Rattle.std.proofs.Common.{◌≡◌, ◌++◌, drop, map, true}
use Rattle.std.specs.Prelude.{flat_map}
use Rattle.std.specs.List.{list_all}
use Rattle.kv_syn.specs.Readable.{is_readable_unit}
use Rattle.kv_syn.specs.ProjectBridge.{plain_unit}
use Rattle.kv_print.specs.Layout.{unit_pieces}
use Rattle.kv_print.specs.Pieces.{spell}
use Rattle.kv_print.proofs.projects.push_units.Given as goal

abbrev pub invariant-loop-unit : goal.invariant-loop-unit
invariant-loop-unit l = record {
  written : l.text ++ spell (flat_map unit_pieces (map plain_unit (drop l.unit-index l.units))) ≡ l.initial.text ++ spell (flat_map unit_pieces (map plain_unit l.units));
  readable : list_all is_readable_unit (drop l.unit-index l.units) ≡ true;
}
