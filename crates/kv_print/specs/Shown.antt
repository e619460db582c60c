-- Typed trees as texts show them: raw trees with `$k` for the variable of a binder that has k - 1 binders round it. An
-- assumed procedure has its own name.
use Rattle.std.specs.Prelude.{ℕ, ◌+◌, ◌-◌, List, ◌++◌, codes, decimal, map}
use Rattle.kv_names.specs.Names.{Name}
use Rattle.kv_trees.specs.Trees.{Term, Terms, Form, Prog}
use Rattle.kv_raw.specs.RawTrees.{RawTerm, RawTerms, RawForm, RawProg}
use Rattle.kv_names.specs.declared.symbols.Callee.{Callee}
use Rattle.kv_names.specs.declared.symbols.Callee.TheVariants as callee
use Rattle.kv_names.specs.declared.symbols.Var.{Var}
use Rattle.kv_trees.specs.declared.trees.Ref.{Ref}
use Rattle.kv_trees.specs.declared.trees.Ref.TheVariants as ref
use Rattle.kv_print.specs.Forms.{form_pieces, printed_prog}
use Rattle.kv_print.specs.Pieces.{spell}

-- the variable of the binder that is the k-th from outside
abbrev pub binder_name : ℕ → Name
binder_name k = codes "$" ++ decimal k

-- a variable inside so many binders; the number of a bound one is less than they are
abbrev pub shown_ref : ℕ → Ref → Name
shown_ref around (ref.Free x) = x.name
shown_ref around (ref.Bound i) = binder_name (around - i)

-- the variable of a further binder
abbrev pub shown_var : ℕ → Name → Var
shown_var around sort = record { name = binder_name (around + 1); sort = sort }

abbrev pub shown_callee : Callee → Name
shown_callee (callee.Symbol p) = p
shown_callee (callee.Assumed p profile) = p

abbrev mutual
  pub shown_term : ℕ → Term → RawTerm
  shown_term around (Term.Place r) = RawTerm.App (shown_ref around r) RawTerms.none
  shown_term around (Term.App f ts) = RawTerm.App f (shown_terms around ts)

  pub shown_terms : ℕ → Terms → RawTerms
  shown_terms around Terms.none = RawTerms.none
  shown_terms around (Terms.more t ts) = RawTerms.more (shown_term around t) (shown_terms around ts)

abbrev mutual
  pub shown_form : ℕ → Form → RawForm
  shown_form around Form.True = RawForm.True
  shown_form around Form.False = RawForm.False
  shown_form around (Form.Atom p ts) = RawForm.Atom p (shown_terms around ts)
  shown_form around (Form.Equal s t) = RawForm.Equal (shown_term around s) (shown_term around t)
  shown_form around (Form.Not f) = RawForm.Not (shown_form around f)
  shown_form around (Form.And f g) = RawForm.And (shown_form around f) (shown_form around g)
  shown_form around (Form.Or f g) = RawForm.Or (shown_form around f) (shown_form around g)
  shown_form around (Form.Imp f g) = RawForm.Imp (shown_form around f) (shown_form around g)
  shown_form around (Form.Iff f g) = RawForm.Iff (shown_form around f) (shown_form around g)
  shown_form around (Form.All s f) = RawForm.All (shown_var around s) (shown_form (around + 1) f)
  shown_form around (Form.Ex s f) = RawForm.Ex (shown_var around s) (shown_form (around + 1) f)
  shown_form around (Form.After a f) = RawForm.After (shown_prog around a) (shown_form around f)
  shown_form around (Form.Can a f) = RawForm.Can (shown_prog around a) (shown_form around f)

  pub shown_prog : ℕ → Prog → RawProg
  shown_prog around Prog.Skip = RawProg.Skip
  shown_prog around Prog.Abort = RawProg.Abort
  shown_prog around (Prog.Assign x t) = RawProg.Assign (shown_ref around x) (shown_term around t)
  shown_prog around (Prog.Seq a b) = RawProg.Seq (shown_prog around a) (shown_prog around b)
  shown_prog around (Prog.If e a b) = RawProg.If (shown_form around e) (shown_prog around a) (shown_prog around b)
  shown_prog around (Prog.While e a) = RawProg.While (shown_form around e) (shown_prog around a)
  shown_prog around (Prog.Local s t a) = RawProg.Local (shown_var around s) (shown_term around t) (shown_prog (around + 1) a)
  shown_prog around (Prog.Call p ts rs) = RawProg.Call (shown_callee p) (shown_terms around ts) (map (shown_ref around) rs)
  shown_prog around (Prog.Choice a b) = RawProg.Choice (shown_prog around a) (shown_prog around b)

-- the text of a formula, and of a program inside so many binders
abbrev pub form_text : Form → List ℕ
form_text form = spell (form_pieces (shown_form 0 form))

abbrev pub prog_text : Prog → ℕ → List ℕ
prog_text prog around = spell (printed_prog (shown_prog around prog)).pieces
