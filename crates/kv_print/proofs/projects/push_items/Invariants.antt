use Rattle.std.proofs.Common.{◌≡◌, ◌++◌, drop, map, true}
use Rattle.std.specs.Prelude.{flat_map}
use Rattle.std.specs.List.{list_all}
use Rattle.kv_syn.specs.Readable.{is_readable_item}
use Rattle.kv_syn.specs.ProjectBridge.{plain_item}
use Rattle.kv_print.specs.Layout.{item_pieces}
use Rattle.kv_print.specs.Pieces.{spell}
use Rattle.kv_print.proofs.projects.push_items.Given as goal

abbrev pub invariant-loop-item : goal.invariant-loop-item
invariant-loop-item l = record {
  written : l.text ++ spell (flat_map item_pieces (map plain_item (drop l.item-index l.items))) ≡ l.initial.text ++ spell (flat_map item_pieces (map plain_item l.items));
  readable : list_all is_readable_item (drop l.item-index l.items) ≡ true;
}
