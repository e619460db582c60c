-- What an opening answers.
use Rattle.std.specs.Prelude.{◌≡◌, Option, Some, None, Result, Ok, Err}
use Rattle.kv_trees.specs.declared.captures.SubstError.{SubstError}
use Rattle.kv_trees.specs.declared.captures.SubstError.TheVariants.{Captured, NoMemory}

-- the value, as `see` shows it, or that there is none, or want of memory
abbrev pub Gives : {T S : Type 0} → (T → S) → Result T SubstError → Option S → Type 0
Gives see (Ok x) value = value ≡ Some (see x)
Gives see (Err Captured) value = value ≡ None
Gives see (Err NoMemory) value = Unit {0}
