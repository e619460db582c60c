-- The items of a unit: the symbol that each declares, and what is at fault in it.
use Rattle.std.specs.Prelude.{ℕ, Bool, true, false, if◌then◌else◌, List, [], ◌∷◌, ◌++◌, Option, Some, None, Result, Ok, Err, map}
use Rattle.std.specs.List.{list_any}
use Rattle.std.specs.Str.{bytes_eq}
use Rattle.kv_sig.specs.Signatures.{added, profile_of}
use Rattle.kv_sig.specs.declared.sigs.SigError.{SigError}
use Rattle.kv_sig.specs.declared.sigs.SigError.TheVariants as sig
use Rattle.kv_syn.specs.Projects as P
use Rattle.kv_names.specs.Names.{Name}
use Rattle.kv_syn.specs.declared.outcomes.Reason.{Reason}
use Rattle.kv_names.specs.declared.symbols.Profile.{Profile}
use Rattle.kv_names.specs.declared.symbols.Profile.TheVariants.{Sort, Fun, Pred, Proc}
use Rattle.kv_names.specs.declared.symbols.Symbol.{Symbol}
use Rattle.kv_names.specs.declared.symbols.Var.{Var}
use Rattle.kv_table.specs.Reasons as reason

-- a fault that speaks of one name
abbrev pub fault_of : ℕ → Name → Reason
fault_of word name = record { word = word; names = name ∷ [] }

-- the first of two faults
abbrev pub first_of : Option Reason → Option Reason → Option Reason
first_of (Some fault) later = Some fault
first_of None later = later

abbrev pub is_sort_profile : Option Profile → Bool
is_sort_profile (Some Sort) = true
is_sort_profile _ = false

-- whether the symbol of that name is there and is a sort
abbrev pub is_sort : List Symbol → Name → Bool
is_sort signature name = is_sort_profile (profile_of signature name)

-- the fault of a sort that is named, and the first fault of several
abbrev pub sort_fault : List Symbol → Name → Option Reason
sort_fault signature sort = if is_sort signature sort then None else Some (fault_of reason.UNKNOWN sort)

abbrev pub sorts_fault : List Symbol → List Name → Option Reason
sorts_fault signature [] = None
sorts_fault signature (sort ∷ sorts) = first_of (sort_fault signature sort) (sorts_fault signature sorts)

-- the fault of a parameter's name, where these names stand before it
abbrev pub repetition : List Name → Name → Option Reason
repetition before name = if list_any (bytes_eq name) before then Some (fault_of reason.DUPLICATE name) else None

-- the first fault of parameters, where those with these names stand before them: of each its name, then its sort
abbrev pub parameters_fault : List Symbol → List Name → List Var → Option Reason
parameters_fault signature before [] = None
parameters_fault signature before (x ∷ xs) = first_of (repetition before x.name) (first_of (sort_fault signature x.sort) (parameters_fault signature (x.name ∷ before) xs))

abbrev pub sorts_of : List Var → List Name
sorts_of = map (λ (x : Var). x.sort)

-- the symbol that an item declares; no text reads as an item without one so far
abbrev pub symbol_of : P.Item → Option Symbol
symbol_of (P.Item.Sort s) = Some (record { name = s; profile = Sort })
symbol_of (P.Item.Fun f args result) = Some (record { name = f; profile = Fun args result })
symbol_of (P.Item.Pred p args) = Some (record { name = p; profile = Pred args })
symbol_of (P.Item.Proc p values refs body) = Some (record { name = p; profile = Proc (sorts_of values) (sorts_of refs) })
symbol_of _ = None

-- the first fault behind an item's name
abbrev pub fault_behind : List Symbol → P.Item → Option Reason
fault_behind signature (P.Item.Fun f args result) = first_of (sorts_fault signature args) (sort_fault signature result)
fault_behind signature (P.Item.Pred p args) = sorts_fault signature args
fault_behind signature (P.Item.Proc p values refs body) = parameters_fault signature [] (values ++ refs)
fault_behind signature _ = None

-- the signature with a symbol more, or the clash of its name
abbrev pub or_clash : Result (List Symbol) SigError → Result (List Symbol) Reason
or_clash (Ok signature) = Ok signature
or_clash (Err (sig.Clash name)) = Err (fault_of reason.CLASH name)
or_clash (Err sig.NoMemory) = Err (fault_of reason.CLASH [])  -- no symbol comes to this

abbrev pub with_symbol : List Symbol → Option Symbol → Result (List Symbol) Reason
with_symbol signature None = Ok signature
with_symbol signature (Some x) = or_clash (added signature x)

-- what is found in two steps, where the fault of the first one comes first
abbrev pub unless : Result (List Symbol) Reason → Option Reason → Result (List Symbol) Reason
unless (Err first) fault = Err first
unless (Ok signature) None = Ok signature
unless (Ok signature) (Some fault) = Err fault

-- the signature with an item more, or the item's first fault: its name comes first. What stands behind the name is
-- looked up among the items before
abbrev pub with_item : List Symbol → P.Item → Result (List Symbol) Reason
with_item signature item = unless (with_symbol signature (symbol_of item)) (fault_behind signature item)

-- items one after the other, up to the first that has a fault
abbrev pub with_items : Result (List Symbol) Reason → List P.Item → Result (List Symbol) Reason
with_items (Err fault) items = Err fault
with_items (Ok signature) [] = Ok signature
with_items (Ok signature) (item ∷ items) = with_items (with_item signature item) items
