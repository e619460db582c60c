-- The forms that the units of a project have so far: basic units of sorts, functions, predicates and procedures without a body.
use Rattle.std.specs.Prelude.{Bool, true, false, None}
use Rattle.std.specs.List.{list_all}
use Rattle.kv_syn.specs.declared.units.Item.{Item}
use Rattle.kv_syn.specs.declared.units.Item.TheVariants.{Sort, Fun, Pred, Proc}
use Rattle.kv_syn.specs.declared.units.Kind.{Kind}
use Rattle.kv_syn.specs.declared.units.Kind.TheVariants.{Basic}
use Rattle.kv_syn.specs.declared.units.Unit as units

abbrev pub is_readable_item : Item → Bool
is_readable_item (Sort name) = true
is_readable_item (Fun name args result) = true
is_readable_item (Pred name args) = true
is_readable_item (Proc name values references None) = true
is_readable_item _ = false

abbrev pub is_readable_kind : Kind → Bool
is_readable_kind (Basic items) = list_all is_readable_item items
is_readable_kind _ = false

abbrev pub is_readable_unit : units.Unit → Bool
is_readable_unit unit = is_readable_kind unit.kind
