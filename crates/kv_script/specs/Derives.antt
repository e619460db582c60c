-- A closed replay stands for a derivation.
use Rattle.std.specs.Prelude.{IsTrue, List, [], ◌∷◌, ◌++◌, Option, Some, None}
use Rattle.kv_trees.specs.Bridge.{plain_form}
use Rattle.kv_names.specs.Names.{Name}
use Rattle.kv_trees.specs.Trees.{Form}
use Rattle.kv_syn.specs.declared.outcomes.Entry.{Entry}
use Rattle.kv_syn.specs.declared.outcomes.Outcome.{Outcome}
use Rattle.kv_sig.specs.FreeNames.{IsClosed}
use Rattle.kv_sig.specs.Members.{Every}
use Rattle.kv_sig.specs.Typing.{IsForm}
use Rattle.kv_sig.specs.Views.{formula_of}
use Rattle.kv_sig.specs.declared.flats.Flat.{Flat}
use Rattle.kv_calc.specs.Calculus.{Good, Derivable, alone, adding}
use Rattle.kv_calc.specs.Theories.{theory_of}

-- the formulas of the entries with these labels
abbrev pub or_nothing : Option Form → List Form
or_nothing (Some f) = f ∷ []
or_nothing None = []

abbrev pub formulas_of : List Entry → List Name → List Form
formulas_of entries [] = []
formulas_of entries (l ∷ ls) = or_nothing (formula_of entries l) ++ formulas_of entries ls

-- each entry's formula is closed and typed over the flat's signature
abbrev pub HasLawfulEntries : Flat → Type 0
HasLawfulEntries flat = Every (λ (entry : Entry). IsForm flat.sig [] (plain_form entry.form) × IsClosed (plain_form entry.form)) flat.entries

-- where the outcome is closed and the goal is typed over the flat, the goal is derivable from what the flat takes as given and
-- from the entries that the script uses
abbrev pub Derives : Flat → Form → Outcome → Type 0
Derives flat goal outcome = IsTrue outcome.closed → HasLawfulEntries flat → Good (theory_of flat) (alone goal)
    → Derivable (adding (formulas_of flat.entries outcome.uses) (theory_of flat)) (alone goal)
