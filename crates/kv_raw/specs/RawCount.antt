-- How many nodes a raw tree has, and how deep it is. Names, references and sorts are no nodes; a leaf has depth 1.
use Rattle.std.specs.Prelude.{ℕ, ◌+◌, max}
use Rattle.kv_raw.specs.RawTrees.{RawTerm, RawTerms, RawForm, RawProg}

abbrev mutual
  pub raw_term_nodes : RawTerm → ℕ
  raw_term_nodes (RawTerm.App f ts) = 1 + raw_terms_nodes ts

  pub raw_terms_nodes : RawTerms → ℕ
  raw_terms_nodes RawTerms.none = 0
  raw_terms_nodes (RawTerms.more t ts) = raw_term_nodes t + raw_terms_nodes ts

abbrev mutual
  pub raw_form_nodes : RawForm → ℕ
  raw_form_nodes RawForm.True = 1
  raw_form_nodes RawForm.False = 1
  raw_form_nodes (RawForm.Atom p ts) = 1 + raw_terms_nodes ts
  raw_form_nodes (RawForm.Equal s t) = 1 + raw_term_nodes s + raw_term_nodes t
  raw_form_nodes (RawForm.Not f) = 1 + raw_form_nodes f
  raw_form_nodes (RawForm.And f g) = 1 + raw_form_nodes f + raw_form_nodes g
  raw_form_nodes (RawForm.Or f g) = 1 + raw_form_nodes f + raw_form_nodes g
  raw_form_nodes (RawForm.Imp f g) = 1 + raw_form_nodes f + raw_form_nodes g
  raw_form_nodes (RawForm.Iff f g) = 1 + raw_form_nodes f + raw_form_nodes g
  raw_form_nodes (RawForm.All x f) = 1 + raw_form_nodes f
  raw_form_nodes (RawForm.Ex x f) = 1 + raw_form_nodes f
  raw_form_nodes (RawForm.After a f) = 1 + raw_prog_nodes a + raw_form_nodes f
  raw_form_nodes (RawForm.Can a f) = 1 + raw_prog_nodes a + raw_form_nodes f

  pub raw_prog_nodes : RawProg → ℕ
  raw_prog_nodes RawProg.Skip = 1
  raw_prog_nodes RawProg.Abort = 1
  raw_prog_nodes (RawProg.Assign x t) = 1 + raw_term_nodes t
  raw_prog_nodes (RawProg.Seq a b) = 1 + raw_prog_nodes a + raw_prog_nodes b
  raw_prog_nodes (RawProg.If e a b) = 1 + raw_form_nodes e + raw_prog_nodes a + raw_prog_nodes b
  raw_prog_nodes (RawProg.While e a) = 1 + raw_form_nodes e + raw_prog_nodes a
  raw_prog_nodes (RawProg.Local x t a) = 1 + raw_term_nodes t + raw_prog_nodes a
  raw_prog_nodes (RawProg.Call p ts rs) = 1 + raw_terms_nodes ts
  raw_prog_nodes (RawProg.Choice a b) = 1 + raw_prog_nodes a + raw_prog_nodes b

abbrev mutual
  pub raw_term_depth : RawTerm → ℕ
  raw_term_depth (RawTerm.App f ts) = 1 + raw_terms_depth ts

  pub raw_terms_depth : RawTerms → ℕ
  raw_terms_depth RawTerms.none = 0
  raw_terms_depth (RawTerms.more t ts) = max (raw_term_depth t) (raw_terms_depth ts)

abbrev mutual
  pub raw_form_depth : RawForm → ℕ
  raw_form_depth RawForm.True = 1
  raw_form_depth RawForm.False = 1
  raw_form_depth (RawForm.Atom p ts) = 1 + raw_terms_depth ts
  raw_form_depth (RawForm.Equal s t) = 1 + max (raw_term_depth s) (raw_term_depth t)
  raw_form_depth (RawForm.Not f) = 1 + raw_form_depth f
  raw_form_depth (RawForm.And f g) = 1 + max (raw_form_depth f) (raw_form_depth g)
  raw_form_depth (RawForm.Or f g) = 1 + max (raw_form_depth f) (raw_form_depth g)
  raw_form_depth (RawForm.Imp f g) = 1 + max (raw_form_depth f) (raw_form_depth g)
  raw_form_depth (RawForm.Iff f g) = 1 + max (raw_form_depth f) (raw_form_depth g)
  raw_form_depth (RawForm.All x f) = 1 + raw_form_depth f
  raw_form_depth (RawForm.Ex x f) = 1 + raw_form_depth f
  raw_form_depth (RawForm.After a f) = 1 + max (raw_prog_depth a) (raw_form_depth f)
  raw_form_depth (RawForm.Can a f) = 1 + max (raw_prog_depth a) (raw_form_depth f)

  pub raw_prog_depth : RawProg → ℕ
  raw_prog_depth RawProg.Skip = 1
  raw_prog_depth RawProg.Abort = 1
  raw_prog_depth (RawProg.Assign x t) = 1 + raw_term_depth t
  raw_prog_depth (RawProg.Seq a b) = 1 + max (raw_prog_depth a) (raw_prog_depth b)
  raw_prog_depth (RawProg.If e a b) = 1 + max (raw_form_depth e) (max (raw_prog_depth a) (raw_prog_depth b))
  raw_prog_depth (RawProg.While e a) = 1 + max (raw_form_depth e) (raw_prog_depth a)
  raw_prog_depth (RawProg.Local x t a) = 1 + max (raw_term_depth t) (raw_prog_depth a)
  raw_prog_depth (RawProg.Call p ts rs) = 1 + raw_terms_depth ts
  raw_prog_depth (RawProg.Choice a b) = 1 + max (raw_prog_depth a) (raw_prog_depth b)
