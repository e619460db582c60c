-- The free names of formulas, from what is told of each of them.
use Rattle.std.proofs.Common.{◌≡◌, List, [], ◌∷◌, ◌++◌, refl, ap, ap₂, ◌∙◌}
use Rattle.std.specs.Prelude.{Result, Ok, Err, IfOk}
use Rattle.std.specs.List.{list_any}
use Rattle.std.specs.Str.{bytes_eq}
use Rattle.kv_sig.specs.FreeNames.{free_form, free_forms, assumed_form, assumed_forms}
use Rattle.kv_trees.proofs.Same.{name_is}
use Rattle.kv_names.specs.Names.{Name}
use Rattle.kv_trees.specs.Trees.{Form, Sequent}
use Rattle.kv_names.specs.declared.symbols.Profile.{Profile}
use Rattle.kv_names.specs.declared.symbols.Var.{Var}
use Rattle.kv_goal.proofs.Onces.{Respects, any_once, once_each}
use Rattle.kv_goal.specs.ByName.{each, variables_each, procedures_each, variables_by_name, procedures_by_name}
use Rattle.kv_goal.specs.Once.{same_variable, same_procedure, variables_once, procedures_once}

-- tests that go by the name alone
by_name : (n : Name) → Respects same_variable (λ (y : Var). bytes_eq y.name n)
by_name n x z e = ap (λ m. bytes_eq m n) (name_is x.name z.name e)

by_its_name : (n : Name) → Respects same_procedure (λ (p : Name × Profile). bytes_eq p.0 n)
by_its_name n x z e = ap (λ m. bytes_eq m n) (name_is x.0 z.0 e)

tells_variables : (y : Var) → Respects same_variable (same_variable y)
tells_variables y x z e = ap (λ m. bytes_eq y.name m) (name_is x.name z.name e)

tells_procedures : (y : Name × Profile) → Respects same_procedure (same_procedure y)
tells_procedures y x z e = ap (λ m. bytes_eq y.0 m) (name_is x.0 z.0 e)

pub variable_once : (n : Name) (xs : List Var) → list_any (λ (y : Var). bytes_eq y.name n) (variables_once xs) ≡ list_any (λ (y : Var). bytes_eq y.name n) xs
variable_once n xs = any_once same_variable (λ (y : Var). bytes_eq y.name n) (by_name n) xs

pub procedure_once : (n : Name) (xs : List (Name × Profile)) → list_any (λ (p : Name × Profile). bytes_eq p.0 n) (procedures_once xs) ≡ list_any (λ (p : Name × Profile). bytes_eq p.0 n) xs
procedure_once n xs = any_once same_procedure (λ (p : Name × Profile). bytes_eq p.0 n) (by_its_name n) xs

each_free : (fs : List Form) → each free_form fs ≡ free_forms fs
each_free [] = refl
each_free (f ∷ fs) = ap (λ xs. free_form f ++ xs) (each_free fs)

each_assumed : (fs : List Form) → each assumed_form fs ≡ assumed_forms fs
each_assumed [] = refl
each_assumed (f ∷ fs) = ap (λ xs. assumed_form f ++ xs) (each_assumed fs)

pub variables_of_both : (s : Sequent) → variables_once (variables_each s.left ++ variables_each s.right) ≡ variables_by_name s
variables_of_both s =
    once_each same_variable tells_variables free_form s.left s.right
    ∙ ap₂ (λ xs ys. variables_once (xs ++ ys)) (each_free s.left) (each_free s.right)

pub procedures_of_both : (s : Sequent) → procedures_once (procedures_each s.left ++ procedures_each s.right) ≡ procedures_by_name s
procedures_of_both s =
    once_each same_procedure tells_procedures assumed_form s.left s.right
    ∙ ap₂ (λ xs ys. procedures_once (xs ++ ys)) (each_assumed s.left) (each_assumed s.right)

pub where_ok : {A E : Type 0} {P Q : A → Type 0} (result : Result A E) → IfOk result P → ((x : A) → P x → Q x) → IfOk result Q
where_ok (Ok x) told next = next x told
where_ok (Err e) told next = tt

-- names gathered from both sides
pub gathered : {T : Type 0} (start one two items xs ys : List T) → start ≡ [] → one ≡ start ++ xs → two ≡ one ++ ys → items ≡ two → items ≡ xs ++ ys
gathered start one two items xs ys none first second lent = lent ∙ second ∙ ap (λ l. l ++ ys) (first ∙ ap (λ l. l ++ xs) none)
