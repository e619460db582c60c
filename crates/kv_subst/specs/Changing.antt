-- Putting terms for the variables of a tree. A change tells what a variable becomes that stands under k binders; what it
-- gives is already the term as it is called there.
use Rattle.std.specs.Prelude.{ℕ, ◌+◌, map}
use Rattle.kv_trees.specs.Trees.{Term, Terms, Form, Prog}
use Rattle.kv_trees.specs.declared.trees.Ref.{Ref}

-- by the number of binders that were passed, and the variable
abbrev pub Change : Type 0
Change = ℕ → Ref → Term

abbrev mutual
  pub changed_term : (Ref → Term) → Term → Term
  changed_term c (Term.Place r) = c r
  changed_term c (Term.App f ts) = Term.App f (changed_terms c ts)

  pub changed_terms : (Ref → Term) → Terms → Terms
  changed_terms c Terms.none = Terms.none
  changed_terms c (Terms.more t ts) = Terms.more (changed_term c t) (changed_terms c ts)

-- the term's variable; the other one where it is none
abbrev pub variable_or : Ref → Term → Ref
variable_or r (Term.Place q) = q
variable_or r (Term.App f ts) = r

-- an assigned variable or a reference stays a variable
abbrev pub changed_ref : (Ref → Term) → Ref → Ref
changed_ref c r = variable_or r (c r)

abbrev mutual
  pub changed_form : Change → ℕ → Form → Form
  changed_form c k Form.True = Form.True
  changed_form c k Form.False = Form.False
  changed_form c k (Form.Atom p ts) = Form.Atom p (changed_terms (c k) ts)
  changed_form c k (Form.Equal s t) = Form.Equal (changed_term (c k) s) (changed_term (c k) t)
  changed_form c k (Form.Not f) = Form.Not (changed_form c k f)
  changed_form c k (Form.And f g) = Form.And (changed_form c k f) (changed_form c k g)
  changed_form c k (Form.Or f g) = Form.Or (changed_form c k f) (changed_form c k g)
  changed_form c k (Form.Imp f g) = Form.Imp (changed_form c k f) (changed_form c k g)
  changed_form c k (Form.Iff f g) = Form.Iff (changed_form c k f) (changed_form c k g)
  changed_form c k (Form.All s f) = Form.All s (changed_form c (k + 1) f)
  changed_form c k (Form.Ex s f) = Form.Ex s (changed_form c (k + 1) f)
  changed_form c k (Form.After a f) = Form.After (changed_prog c k a) (changed_form c k f)
  changed_form c k (Form.Can a f) = Form.Can (changed_prog c k a) (changed_form c k f)

  pub changed_prog : Change → ℕ → Prog → Prog
  changed_prog c k Prog.Skip = Prog.Skip
  changed_prog c k Prog.Abort = Prog.Abort
  changed_prog c k (Prog.Assign x t) = Prog.Assign (changed_ref (c k) x) (changed_term (c k) t)
  changed_prog c k (Prog.Seq a b) = Prog.Seq (changed_prog c k a) (changed_prog c k b)
  changed_prog c k (Prog.If e a b) = Prog.If (changed_form c k e) (changed_prog c k a) (changed_prog c k b)
  changed_prog c k (Prog.While e a) = Prog.While (changed_form c k e) (changed_prog c k a)
  changed_prog c k (Prog.Local s t a) = Prog.Local s (changed_term (c k) t) (changed_prog c (k + 1) a)
  changed_prog c k (Prog.Call p ts rs) = Prog.Call p (changed_terms (c k) ts) (map (changed_ref (c k)) rs)
  changed_prog c k (Prog.Choice a b) = Prog.Choice (changed_prog c k a) (changed_prog c k b)
