-- What a list ends as, where one of its items is lent for a change.
use Rattle.std.specs.Prelude.{ℕ, List, slice_set}
use Rattle.std.specs.Borrow.{Fml, Lends, MutBor, RattleType}
use Rattle.kv_names.specs.contracts.lists.List.{the_row}

-- the list ends with that place set to the last value of the item
abbrev pub LendsItem : (T : RattleType) → MutBor (List T.Denot) → ℕ → MutBor T.Denot → Fml
LendsItem T list place item = Lends (the_row T) T list item (slice_set list.now place)
