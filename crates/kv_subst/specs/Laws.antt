-- Laws of raising, opening, closing and renaming, each for formulas and for programs, under any number of binders.
use Rattle.std.specs.Prelude.{◌≡◌, ℕ, ◌+◌, ◌≤◌, true, false, not, ◌&&◌, ◌||◌, Some}
use Rattle.std.specs.Option.{option_map}
use Rattle.kv_trees.specs.Same.{ref_eq}
use Rattle.kv_names.specs.Names.{Name}
use Rattle.kv_trees.specs.Trees.{Term, Form, Prog}
use Rattle.kv_trees.specs.Count.{form_depth, prog_depth}
use Rattle.kv_names.specs.declared.symbols.Var.{Var}
use Rattle.kv_trees.specs.declared.trees.Ref.{Ref}
use Rattle.kv_trees.specs.declared.trees.Ref.TheVariants.{Free, Bound}
use Rattle.kv_trees.specs.Variables.{raised_ref, term_has, form_has, prog_has, modifies, form_binders, prog_binders}
use Rattle.kv_subst.specs.Changing.{changed_term, changed_form, changed_prog}
use Rattle.kv_subst.specs.Opening.{raised, raised_term, opened, renamed, is_admissible, prog_is_admissible, open_form, open_prog, close_form, close_prog, rename_term, rename_form, rename_prog}
use Rattle.kv_subst.specs.Fitting.{FormFits, ProgFits}

-- raising by none
pub record RaisingByNone : Type 0 where
  pub of_form : (k : ℕ) (f : Form) → changed_form (raised 0) k f ≡ f
  pub of_prog : (k : ℕ) (a : Prog) → changed_prog (raised 0) k a ≡ a

-- raising by n and then by m
pub record RaisingTwice : Type 0 where
  pub of_form : (n m k : ℕ) (f : Form) → changed_form (raised m) k (changed_form (raised n) k f) ≡ changed_form (raised (n + m)) k f
  pub of_prog : (n m k : ℕ) (a : Prog) → changed_prog (raised m) k (changed_prog (raised n) k a) ≡ changed_prog (raised (n + m)) k a

-- where an opening is admissible, the term is a variable or comes to no assigned variable and no reference
pub record AdmissibleFits : Type 0 where
  pub of_form : (t : Term) (f : Form) → is_admissible f t ≡ true → FormFits (opened t) 0 f
  pub of_prog : (t : Term) (a : Prog) → prog_is_admissible a t ≡ true → ProgFits (opened t) 0 a

-- the variable of the inner binder and then that of the outer one, or first that of the outer one
pub record OpeningTwice : Type 0 where
  pub of_form : (t u : Term) (k : ℕ) (f : Form) → FormFits (opened t) k f →
      changed_form (opened u) k (changed_form (opened t) k f) ≡ changed_form (opened (changed_term (opened u 0) t)) k (changed_form (opened u) (k + 1) f)
  pub of_prog : (t u : Term) (k : ℕ) (a : Prog) → ProgFits (opened t) k a →
      changed_prog (opened u) k (changed_prog (opened t) k a) ≡ changed_prog (opened (changed_term (opened u 0) t)) k (changed_prog (opened u) (k + 1) a)

-- what was raised for a binder doesn't have its variable, so opening gives it back
pub record OpeningRaised : Type 0 where
  pub of_form : (t : Term) (n k : ℕ) (f : Form) → changed_form (opened t) k (changed_form (raised (n + 1)) k f) ≡ changed_form (raised n) k f
  pub of_prog : (t : Term) (n k : ℕ) (a : Prog) → changed_prog (opened t) k (changed_prog (raised (n + 1)) k a) ≡ changed_prog (raised n) k a

-- opening and then raising, or first raising the body, outside its binder, and the term
pub record RaisingOpened : Type 0 where
  pub of_form : (t : Term) (n k : ℕ) (f : Form) → FormFits (opened t) k f →
      changed_form (raised n) k (changed_form (opened t) k f) ≡ changed_form (opened (raised_term n t)) k (changed_form (raised n) (k + 1) f)
  pub of_prog : (t : Term) (n k : ℕ) (a : Prog) → ProgFits (opened t) k a →
      changed_prog (raised n) k (changed_prog (opened t) k a) ≡ changed_prog (opened (raised_term n t)) k (changed_prog (raised n) (k + 1) a)

-- opening and then renaming, or first renaming in the body and in the term
pub record RenamingOpened : Type 0 where
  pub of_form : (t : Term) (x : Var) (to : Name) (k : ℕ) (f : Form) →
      changed_form (renamed x to) k (changed_form (opened t) k f) ≡ changed_form (opened (changed_term (renamed x to 0) t)) k (changed_form (renamed x to) k f)
  pub of_prog : (t : Term) (x : Var) (to : Name) (k : ℕ) (a : Prog) →
      changed_prog (renamed x to) k (changed_prog (opened t) k a) ≡ changed_prog (opened (changed_term (renamed x to 0) t)) k (changed_prog (renamed x to) k a)

-- the variable by its new name
abbrev pub as_named : Var → Name → Ref
as_named x to = Free (record { name = to; sort = x.sort })

-- renaming to a name that is new in both, before or after an opening, which stays admissible or not
pub record RenamingOpenings : Type 0 where
  pub of_form : (t : Term) (x : Var) (to : Name) (f : Form) → term_has (as_named x to) t ≡ false → form_has (as_named x to) 0 f ≡ false →
      open_form (rename_form x to f) (rename_term x to t) ≡ option_map (rename_form x to) (open_form f t)
  pub of_prog : (t : Term) (x : Var) (to : Name) (a : Prog) → term_has (as_named x to) t ≡ false → prog_has (as_named x to) 0 a ≡ false →
      open_prog (rename_prog x to a) (rename_term x to t) ≡ option_map (rename_prog x to) (open_prog a t)

-- the opening of the closed tree at its variable is the tree
pub record OpeningClosed : Type 0 where
  pub of_form : (x : Var) (f : Form) → open_form (close_form x f) (Term.Place (Free x)) ≡ Some f
  pub of_prog : (x : Var) (a : Prog) → open_prog (close_prog x a) (Term.Place (Free x)) ≡ Some a

-- a variable is free in an opening where it is free in the body, or the bound one is and it is in the term
pub record VariablesOpened : Type 0 where
  pub of_form : (t : Term) (r : Ref) (k : ℕ) (f : Form) → FormFits (opened t) k f →
      form_has r k (changed_form (opened t) k f) ≡ (form_has (raised_ref 1 r) k f || (form_has (Bound 0) k f && term_has r t))
  pub of_prog : (t : Term) (r : Ref) (k : ℕ) (a : Prog) → ProgFits (opened t) k a →
      prog_has r k (changed_prog (opened t) k a) ≡ (prog_has (raised_ref 1 r) k a || (prog_has (Bound 0) k a && term_has r t))
  pub of_mod : (t : Term) (r : Ref) (k : ℕ) (a : Prog) → ProgFits (opened t) k a →
      modifies r k (changed_prog (opened t) k a) ≡ (modifies (raised_ref 1 r) k a || (modifies (Bound 0) k a && term_has r t))

-- a variable is free in a renamed tree where it was free before, unless it is the old one, and the new one also where the old
-- one was free
pub record VariablesRenamed : Type 0 where
  pub of_form : (x : Var) (to : Name) (r : Ref) (k : ℕ) (f : Form) →
      form_has r k (changed_form (renamed x to) k f) ≡ ((form_has r k f && not (ref_eq r (Free x))) || (form_has (Free x) k f && ref_eq r (as_named x to)))
  pub of_prog : (x : Var) (to : Name) (r : Ref) (k : ℕ) (a : Prog) →
      prog_has r k (changed_prog (renamed x to) k a) ≡ ((prog_has r k a && not (ref_eq r (Free x))) || (prog_has (Free x) k a && ref_eq r (as_named x to)))
  pub of_mod : (x : Var) (to : Name) (r : Ref) (k : ℕ) (a : Prog) →
      modifies r k (changed_prog (renamed x to) k a) ≡ ((modifies r k a && not (ref_eq r (Free x))) || (modifies (Free x) k a && ref_eq r (as_named x to)))

-- a tree has at most as many binders in one another as it is deep
pub record BindersWithinDepth : Type 0 where
  pub of_form : (f : Form) → form_binders f ≤ form_depth f
  pub of_prog : (a : Prog) → prog_binders a ≤ prog_depth a
