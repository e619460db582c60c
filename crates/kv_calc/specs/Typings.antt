-- Typing of what is opened, closed or renamed, each for formulas and for programs, under any binders around them.
use Rattle.std.specs.Prelude.{◌≡◌, false, if◌then◌else◌, List, ◌∷◌, Some, map}
use Rattle.kv_trees.specs.Same.{var_eq}
use Rattle.kv_names.specs.Names.{Name}
use Rattle.kv_trees.specs.Trees.{Term, Form, Prog}
use Rattle.kv_names.specs.declared.symbols.Symbol.{Symbol}
use Rattle.kv_names.specs.declared.symbols.Var.{Var}
use Rattle.kv_trees.specs.Variables.{form_has, prog_has}
use Rattle.kv_sig.specs.FreeNames.{free_form, free_prog}
use Rattle.kv_sig.specs.Typing.{IsTerm, IsForm, IsProg}
use Rattle.kv_subst.specs.Laws.{as_named}
use Rattle.kv_subst.specs.Opening.{open_form, open_prog, close_form, close_prog, rename_form, rename_prog}

-- a body that is typed under a binder, and opens at a term of the binder's sort, is typed without it
pub record OpeningTyped : Type 0 where
  pub of_form : (sig : List Symbol) (binders : List Name) (sort : Name) (t : Term) (f g : Form) →
      IsTerm sig binders t sort → IsForm sig (sort ∷ binders) f → open_form f t ≡ Some g → IsForm sig binders g
  pub of_prog : (sig : List Symbol) (binders : List Name) (sort : Name) (t : Term) (a b : Prog) →
      IsTerm sig binders t sort → IsProg sig (sort ∷ binders) a → open_prog a t ≡ Some b → IsProg sig binders b

-- a typed tree that is closed at a variable is typed under a binder of the variable's sort
pub record ClosingTyped : Type 0 where
  pub of_form : (sig : List Symbol) (binders : List Name) (x : Var) (f : Form) →
      IsForm sig binders f → IsForm sig (x.sort ∷ binders) (close_form x f)
  pub of_prog : (sig : List Symbol) (binders : List Name) (x : Var) (a : Prog) →
      IsProg sig binders a → IsProg sig (x.sort ∷ binders) (close_prog x a)

-- the variable with its new name, in place of the old one
abbrev pub with_name : Var → Name → Var → Var
with_name x to y = if var_eq y x then record { name = to; sort = x.sort } else y

-- a typed tree whose variable gets a name that isn't free in it stays typed, and the free variables are those of the tree,
-- the renamed one by its new name
pub record RenamingTyped : Type 0 where
  pub of_form : (sig : List Symbol) (binders : List Name) (x : Var) (to : Name) (f : Form) →
      form_has (as_named x to) 0 f ≡ false → IsForm sig binders f → IsForm sig binders (rename_form x to f)
  pub of_prog : (sig : List Symbol) (binders : List Name) (x : Var) (to : Name) (a : Prog) →
      prog_has (as_named x to) 0 a ≡ false → IsProg sig binders a → IsProg sig binders (rename_prog x to a)
  pub free_in_form : (x : Var) (to : Name) (f : Form) → free_form (rename_form x to f) ≡ map (with_name x to) (free_form f)
  pub free_in_prog : (x : Var) (to : Name) (a : Prog) → free_prog (rename_prog x to a) ≡ map (with_name x to) (free_prog a)
