-- Raising, opening, closing and renaming, as changes of variables, and when an opening is admissible.
use Rattle.std.specs.Prelude.{ℕ, ◌+◌, ◌-◌, Bool, true, false, not, ◌&&◌, ◌||◌, ◌==◌, nat_lt, if◌then◌else◌, Option, Some, None}
use Rattle.kv_trees.specs.Same.{var_eq}
use Rattle.kv_names.specs.Names.{Name}
use Rattle.kv_trees.specs.Trees.{Term, Terms, Form, Prog}
use Rattle.kv_names.specs.declared.symbols.Var.{Var}
use Rattle.kv_trees.specs.declared.trees.Ref.{Ref}
use Rattle.kv_trees.specs.declared.trees.Ref.TheVariants.{Free, Bound}
use Rattle.kv_trees.specs.Variables.{raised_ref, term_any, form_has, prog_has, modifies}
use Rattle.kv_subst.specs.Changing.{Change, changed_term, changed_terms, changed_form, changed_prog}

-- Raising by n: n more binders stand around the tree, and the numbers of the binders outside it are n more.
abbrev pub raised_var : ℕ → ℕ → Ref → Ref
raised_var n k (Free x) = Free x
raised_var n k (Bound m) = if nat_lt m k then Bound m else Bound (m + n)

abbrev pub raised : ℕ → Change
raised n k r = Term.Place (raised_var n k r)

-- terms, which have no binders of their own
abbrev pub raised_term : ℕ → Term → Term
raised_term n t = changed_term (λ r. Term.Place (raised_ref n r)) t

abbrev pub raised_terms : ℕ → Terms → Terms
raised_terms n ts = changed_terms (λ r. Term.Place (raised_ref n r)) ts

-- Opening at t: the tree is the body of a binder, which goes away. Its number becomes the term, raised by the binders
-- passed, and the numbers of the binders further out are one less.
abbrev pub opened : Term → Change
opened t k (Free x) = Term.Place (Free x)
opened t k (Bound m) = if nat_lt m k then Term.Place (Bound m) else (if m == k then raised_term k t else Term.Place (Bound (m - 1)))

-- Closing: a binder comes around the tree, and the variable becomes its number.
abbrev pub closed_var : Var → ℕ → Ref → Ref
closed_var x k (Free y) = if var_eq y x then Bound k else Free y
closed_var x k (Bound m) = if nat_lt m k then Bound m else Bound (m + 1)

abbrev pub closed : Var → Change
closed x k r = Term.Place (closed_var x k r)

-- Renaming: the variable gets another name, and keeps its sort.
abbrev pub renamed_var : Var → Name → Ref → Ref
renamed_var x to (Free y) = Free (if var_eq y x then record { name = to; sort = x.sort } else y)
renamed_var x to (Bound m) = Bound m

abbrev pub renamed : Var → Name → Change
renamed x to k r = Term.Place (renamed_var x to r)

-- A box or diamond may stand, under k binders of the body that is opened at t: its program doesn't modify the bound variable,
-- and where this one is free in the program or in the formula behind it, the program modifies no variable of t. Those stand
-- outside the body's own binder too.
unfoldable pub keeps : Term → ℕ → Prog → Form → Bool
keeps t k a f = not (modifies (Bound 0) k a) && not ((prog_has (Bound 0) k a || form_has (Bound 0) k f) && term_any (λ r. modifies r (k + 1) a) t)

abbrev mutual
  -- each box and diamond of the formula may stand
  pub form_keeps : Term → ℕ → Form → Bool
  form_keeps t k Form.True = true
  form_keeps t k Form.False = true
  form_keeps t k (Form.Atom p ts) = true
  form_keeps t k (Form.Equal s u) = true
  form_keeps t k (Form.Not f) = form_keeps t k f
  form_keeps t k (Form.And f g) = form_keeps t k f && form_keeps t k g
  form_keeps t k (Form.Or f g) = form_keeps t k f && form_keeps t k g
  form_keeps t k (Form.Imp f g) = form_keeps t k f && form_keeps t k g
  form_keeps t k (Form.Iff f g) = form_keeps t k f && form_keeps t k g
  form_keeps t k (Form.All s f) = form_keeps t (k + 1) f
  form_keeps t k (Form.Ex s f) = form_keeps t (k + 1) f
  form_keeps t k (Form.After a f) = keeps t k a f && (prog_keeps t k a && form_keeps t k f)
  form_keeps t k (Form.Can a f) = keeps t k a f && (prog_keeps t k a && form_keeps t k f)

  -- those in its conditions
  pub prog_keeps : Term → ℕ → Prog → Bool
  prog_keeps t k Prog.Skip = true
  prog_keeps t k Prog.Abort = true
  prog_keeps t k (Prog.Assign x u) = true
  prog_keeps t k (Prog.Seq a b) = prog_keeps t k a && prog_keeps t k b
  prog_keeps t k (Prog.If e a b) = form_keeps t k e && (prog_keeps t k a && prog_keeps t k b)
  prog_keeps t k (Prog.While e a) = form_keeps t k e && prog_keeps t k a
  prog_keeps t k (Prog.Local s u a) = prog_keeps t (k + 1) a
  prog_keeps t k (Prog.Call p us rs) = true
  prog_keeps t k (Prog.Choice a b) = prog_keeps t k a && prog_keeps t k b

-- the term is a variable that isn't free in the body, where it is called one more
abbrev pub is_new : Form → Term → Bool
is_new f (Term.Place r) = not (form_has r 1 f)
is_new f (Term.App g ts) = false

-- opening the body at the term is admissible
unfoldable pub is_admissible : Form → Term → Bool
is_admissible f t = form_keeps t 0 f || is_new f t

-- the body of a block is judged as the box of it
abbrev pub prog_is_admissible : Prog → Term → Bool
prog_is_admissible a t = is_admissible (Form.After a Form.True) t

-- the body at the term, where this is admissible
abbrev pub open_form : Form → Term → Option Form
open_form f t = if is_admissible f t then Some (changed_form (opened t) 0 f) else None

abbrev pub open_prog : Prog → Term → Option Prog
open_prog a t = if prog_is_admissible a t then Some (changed_prog (opened t) 0 a) else None

-- the body whose opening at the variable is the tree
abbrev pub close_form : Var → Form → Form
close_form x f = changed_form (closed x) 0 f

abbrev pub close_prog : Var → Prog → Prog
close_prog x a = changed_prog (closed x) 0 a

abbrev pub rename_term : Var → Name → Term → Term
rename_term x to t = changed_term (renamed x to 0) t

abbrev pub rename_form : Var → Name → Form → Form
rename_form x to f = changed_form (renamed x to) 0 f

abbrev pub rename_prog : Var → Name → Prog → Prog
rename_prog x to a = changed_prog (renamed x to) 0 a
