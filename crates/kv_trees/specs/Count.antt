-- How many nodes a tree has, and how deep it is. Names, references and sorts are no nodes; a leaf has depth 1.
use Rattle.std.specs.Prelude.{ℕ, ◌+◌, max, List, [], ◌∷◌}
use Rattle.kv_trees.specs.Trees.{Term, Terms, Form, Prog, Sequent}

abbrev mutual
  pub term_nodes : Term → ℕ
  term_nodes (Term.Place r) = 1
  term_nodes (Term.App f ts) = 1 + terms_nodes ts

  pub terms_nodes : Terms → ℕ
  terms_nodes Terms.none = 0
  terms_nodes (Terms.more t ts) = term_nodes t + terms_nodes ts

abbrev mutual
  pub form_nodes : Form → ℕ
  form_nodes Form.True = 1
  form_nodes Form.False = 1
  form_nodes (Form.Atom p ts) = 1 + terms_nodes ts
  form_nodes (Form.Equal s t) = 1 + term_nodes s + term_nodes t
  form_nodes (Form.Not f) = 1 + form_nodes f
  form_nodes (Form.And f g) = 1 + form_nodes f + form_nodes g
  form_nodes (Form.Or f g) = 1 + form_nodes f + form_nodes g
  form_nodes (Form.Imp f g) = 1 + form_nodes f + form_nodes g
  form_nodes (Form.Iff f g) = 1 + form_nodes f + form_nodes g
  form_nodes (Form.All s f) = 1 + form_nodes f
  form_nodes (Form.Ex s f) = 1 + form_nodes f
  form_nodes (Form.After a f) = 1 + prog_nodes a + form_nodes f
  form_nodes (Form.Can a f) = 1 + prog_nodes a + form_nodes f

  pub prog_nodes : Prog → ℕ
  prog_nodes Prog.Skip = 1
  prog_nodes Prog.Abort = 1
  prog_nodes (Prog.Assign x t) = 1 + term_nodes t
  prog_nodes (Prog.Seq a b) = 1 + prog_nodes a + prog_nodes b
  prog_nodes (Prog.If e a b) = 1 + form_nodes e + prog_nodes a + prog_nodes b
  prog_nodes (Prog.While e a) = 1 + form_nodes e + prog_nodes a
  prog_nodes (Prog.Local s t a) = 1 + term_nodes t + prog_nodes a
  prog_nodes (Prog.Call p ts rs) = 1 + terms_nodes ts
  prog_nodes (Prog.Choice a b) = 1 + prog_nodes a + prog_nodes b

abbrev mutual
  pub term_depth : Term → ℕ
  term_depth (Term.Place r) = 1
  term_depth (Term.App f ts) = 1 + terms_depth ts

  pub terms_depth : Terms → ℕ
  terms_depth Terms.none = 0
  terms_depth (Terms.more t ts) = max (term_depth t) (terms_depth ts)

abbrev mutual
  pub form_depth : Form → ℕ
  form_depth Form.True = 1
  form_depth Form.False = 1
  form_depth (Form.Atom p ts) = 1 + terms_depth ts
  form_depth (Form.Equal s t) = 1 + max (term_depth s) (term_depth t)
  form_depth (Form.Not f) = 1 + form_depth f
  form_depth (Form.And f g) = 1 + max (form_depth f) (form_depth g)
  form_depth (Form.Or f g) = 1 + max (form_depth f) (form_depth g)
  form_depth (Form.Imp f g) = 1 + max (form_depth f) (form_depth g)
  form_depth (Form.Iff f g) = 1 + max (form_depth f) (form_depth g)
  form_depth (Form.All s f) = 1 + form_depth f
  form_depth (Form.Ex s f) = 1 + form_depth f
  form_depth (Form.After a f) = 1 + max (prog_depth a) (form_depth f)
  form_depth (Form.Can a f) = 1 + max (prog_depth a) (form_depth f)

  pub prog_depth : Prog → ℕ
  prog_depth Prog.Skip = 1
  prog_depth Prog.Abort = 1
  prog_depth (Prog.Assign x t) = 1 + term_depth t
  prog_depth (Prog.Seq a b) = 1 + max (prog_depth a) (prog_depth b)
  prog_depth (Prog.If e a b) = 1 + max (form_depth e) (max (prog_depth a) (prog_depth b))
  prog_depth (Prog.While e a) = 1 + max (form_depth e) (prog_depth a)
  prog_depth (Prog.Local s t a) = 1 + max (term_depth t) (prog_depth a)
  prog_depth (Prog.Call p ts rs) = 1 + terms_depth ts
  prog_depth (Prog.Choice a b) = 1 + max (prog_depth a) (prog_depth b)

abbrev pub forms_nodes : List Form → ℕ
forms_nodes [] = 0
forms_nodes (f ∷ fs) = form_nodes f + forms_nodes fs

-- the nodes of all its formulas
abbrev pub sequent_nodes : Sequent → ℕ
sequent_nodes s = forms_nodes s.left + forms_nodes s.right

abbrev pub forms_depth : List Form → ℕ
forms_depth [] = 0
forms_depth (f ∷ fs) = max (form_depth f) (forms_depth fs)

-- the depth of its deepest formula
abbrev pub sequent_depth : Sequent → ℕ
sequent_depth s = max (forms_depth s.left) (forms_depth s.right)
