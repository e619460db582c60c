-- The free names of a sequent.
use Rattle.std.specs.Prelude.{List, [], ◌∷◌, ◌++◌}
use Rattle.kv_sig.specs.FreeNames.{free_form, assumed_form, free_sequent, assumed_sequent}
use Rattle.kv_names.specs.Names.{Name}
use Rattle.kv_trees.specs.Trees.{Form, Sequent}
use Rattle.kv_names.specs.declared.symbols.Profile.{Profile}
use Rattle.kv_names.specs.declared.symbols.Var.{Var}
use Rattle.kv_goal.specs.Once.{variables_once, procedures_once}

-- the free variables and the assumed procedures of a sequent, each name once
abbrev pub variables_by_name : Sequent → List Var
variables_by_name s = variables_once (free_sequent s)

abbrev pub procedures_by_name : Sequent → List (Name × Profile)
procedures_by_name s = procedures_once (assumed_sequent s)

-- what the items of a list give, one after the other
abbrev pub each : {A T : Type 0} → (A → List T) → List A → List T
each of [] = []
each of (x ∷ xs) = of x ++ each of xs

-- the names of each formula once
abbrev pub variables_each : List Form → List Var
variables_each = each (λ f. variables_once (free_form f))

abbrev pub procedures_each : List Form → List (Name × Profile)
procedures_each = each (λ f. procedures_once (assumed_form f))
