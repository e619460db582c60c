-- The items of a list, each once.
use Rattle.std.specs.Prelude.{Bool, if◌then◌else◌, List, [], ◌∷◌, ◌++◌}
use Rattle.std.specs.List.{list_any}
use Rattle.std.specs.Str.{bytes_eq}
use Rattle.kv_names.specs.Names.{Name}
use Rattle.kv_names.specs.declared.symbols.Profile.{Profile}
use Rattle.kv_names.specs.declared.symbols.Var.{Var}

-- the seen items, and then each other one where it comes first
abbrev pub once_after : {T : Type 0} → (T → T → Bool) → List T → List T → List T
once_after same seen [] = seen
once_after same seen (x ∷ xs) = if list_any (same x) seen then once_after same seen xs else once_after same (seen ++ x ∷ []) xs

abbrev pub once : {T : Type 0} → (T → T → Bool) → List T → List T
once same xs = once_after same [] xs

-- of the variables, and of the procedures, of one name the first
abbrev pub same_variable : Var → Var → Bool
same_variable x y = bytes_eq x.name y.name

abbrev pub same_procedure : Name × Profile → Name × Profile → Bool
same_procedure p q = bytes_eq p.0 q.0

abbrev pub variables_once : List Var → List Var
variables_once = once same_variable

abbrev pub procedures_once : List (Name × Profile) → List (Name × Profile)
procedures_once = once same_procedure
