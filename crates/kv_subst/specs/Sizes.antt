-- How far the numbers in a tree go.
use Rattle.std.specs.Prelude.{ℕ, ◌+◌, ◌-◌, max, List, [], ◌∷◌}
use Rattle.kv_trees.specs.Trees.{Term, Terms, Form, Prog}
use Rattle.kv_trees.specs.declared.trees.Ref.{Ref}
use Rattle.kv_trees.specs.declared.trees.Ref.TheVariants.{Free, Bound}

-- how many binders around it the variable counts
abbrev pub ref_reach : Ref → ℕ
ref_reach (Free x) = 0
ref_reach (Bound n) = n + 1

abbrev pub refs_reach : List Ref → ℕ
refs_reach [] = 0
refs_reach (r ∷ rs) = max (ref_reach r) (refs_reach rs)

abbrev mutual
  -- how many binders around the term its variables count
  pub term_reach : Term → ℕ
  term_reach (Term.Place r) = ref_reach r
  term_reach (Term.App f ts) = terms_reach ts

  pub terms_reach : Terms → ℕ
  terms_reach Terms.none = 0
  terms_reach (Terms.more t ts) = max (term_reach t) (terms_reach ts)

abbrev mutual
  -- how many binders around the tree its variables count; one of the tree's own is none of them
  pub form_reach : Form → ℕ
  form_reach Form.True = 0
  form_reach Form.False = 0
  form_reach (Form.Atom p ts) = terms_reach ts
  form_reach (Form.Equal s t) = max (term_reach s) (term_reach t)
  form_reach (Form.Not f) = form_reach f
  form_reach (Form.And f g) = max (form_reach f) (form_reach g)
  form_reach (Form.Or f g) = max (form_reach f) (form_reach g)
  form_reach (Form.Imp f g) = max (form_reach f) (form_reach g)
  form_reach (Form.Iff f g) = max (form_reach f) (form_reach g)
  form_reach (Form.All s f) = form_reach f - 1
  form_reach (Form.Ex s f) = form_reach f - 1
  form_reach (Form.After a f) = max (prog_reach a) (form_reach f)
  form_reach (Form.Can a f) = max (prog_reach a) (form_reach f)

  pub prog_reach : Prog → ℕ
  prog_reach Prog.Skip = 0
  prog_reach Prog.Abort = 0
  prog_reach (Prog.Assign x t) = max (ref_reach x) (term_reach t)
  prog_reach (Prog.Seq a b) = max (prog_reach a) (prog_reach b)
  prog_reach (Prog.If e a b) = max (form_reach e) (max (prog_reach a) (prog_reach b))
  prog_reach (Prog.While e a) = max (form_reach e) (prog_reach a)
  prog_reach (Prog.Local s t a) = max (term_reach t) (prog_reach a - 1)
  prog_reach (Prog.Call p ts rs) = max (terms_reach ts) (refs_reach rs)
  prog_reach (Prog.Choice a b) = max (prog_reach a) (prog_reach b)
