use Rattle.std.proofs.Common.{◌≡◌, true, [], drop, map, Ok}
use Rattle.std.specs.List.{list_all}
use Rattle.kv_flat.specs.Items.{with_items}
use Rattle.kv_syn.specs.ProjectBridge.{plain_item}
use Rattle.kv_syn.specs.Readable.{is_readable_item}
use Rattle.kv_flat.proofs.flattening.basic.Given as goal

abbrev pub invariant-loop-item : goal.invariant-loop-item
invariant-loop-item l = record {
  readable : list_all is_readable_item (drop l.item-index l.items) ≡ true;
  found : with_items (Ok l.sig) (map plain_item (drop l.item-index l.items)) ≡ with_items (Ok []) (map plain_item l.items);
}
