-- A table that leads from names to the places of symbols.
use Rattle.std.specs.Prelude.{◌≡◌, ℕ, if◌then◌else◌, List, Option, Some, None, Vec}
use Rattle.std.specs.Str.{bytes_eq}
use Rattle.std.specs.List.{slice_get}
use Rattle.std.specs.HashMap.{HashMap, get_by}
use Rattle.kv_names.specs.Names.{Name}
use Rattle.kv_names.specs.declared.symbols.Symbol.{Symbol}

-- what the table tells of a name
abbrev pub told : {A S : Type 0} → HashMap (Vec ℕ A) ℕ S → Name → Option ℕ
told index name = get_by (λ k. bytes_eq name k.items) index

-- each symbol's name leads to its place
unfoldable pub IsIndex : {A S : Type 0} → List Symbol → HashMap (Vec ℕ A) ℕ S → Type 0
IsIndex xs index = (i : ℕ) (x : Symbol) → slice_get xs i ≡ Some x → told index x.name ≡ Some i

abbrev pub if_named : Name → Option Symbol → Option Symbol
if_named name None = None
if_named name (Some x) = if bytes_eq x.name name then Some x else None

-- the symbol at the place that the table tells, if it has the name
abbrev pub at_place : List Symbol → Name → Option ℕ → Option Symbol
at_place xs name None = None
at_place xs name (Some i) = if_named name (slice_get xs i)
