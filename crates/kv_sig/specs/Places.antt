-- Places in a list, counted from 1.
use Rattle.std.specs.Prelude.{ℕ, ◌-◌, ◌==◌, if◌then◌else◌, List, ◌++◌, take, drop, slice_set, Option, None}
use Rattle.std.specs.List.{slice_get}

-- the item at a place, where there is one
abbrev pub item_at : {T : Type 0} → List T → ℕ → Option T
item_at items place = if place == 0 then None else slice_get items (place - 1)

-- the list with another item at a place
abbrev pub with_item : {T : Type 0} → List T → ℕ → T → List T
with_item items place item = slice_set items (place - 1) item

-- the list without the item at a place
abbrev pub without_item : {T : Type 0} → List T → ℕ → List T
without_item items place = take (place - 1) items ++ drop place items

-- the list with these items in place of the item at a place
abbrev pub with_items : {T : Type 0} → List T → ℕ → List T → List T
with_items items place new = take (place - 1) items ++ new ++ drop place items
