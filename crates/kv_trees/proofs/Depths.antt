-- No tree has more binders in one another than it is deep.
use Rattle.std.proofs.Common.{◌≤◌, arith}
use Rattle.kv_trees.specs.Count.{form_depth, prog_depth}
use Rattle.kv_trees.specs.Trees.{Form, Prog}
use Rattle.kv_trees.specs.Variables.{form_binders, prog_binders}

mutual
  pub form_within : (f : Form) → form_binders f ≤ form_depth f
  form_within Form.True = omega arith
  form_within Form.False = omega arith
  form_within (Form.Atom p ts) = omega arith
  form_within (Form.Equal s t) = omega arith
  form_within (Form.Not f) = omega (arith, form_within f)
  form_within (Form.And f g) = omega (arith, form_within f, form_within g)
  form_within (Form.Or f g) = omega (arith, form_within f, form_within g)
  form_within (Form.Imp f g) = omega (arith, form_within f, form_within g)
  form_within (Form.Iff f g) = omega (arith, form_within f, form_within g)
  form_within (Form.All s f) = omega (arith, form_within f)
  form_within (Form.Ex s f) = omega (arith, form_within f)
  form_within (Form.After a f) = omega (arith, prog_within a, form_within f)
  form_within (Form.Can a f) = omega (arith, prog_within a, form_within f)

  pub prog_within : (a : Prog) → prog_binders a ≤ prog_depth a
  prog_within Prog.Skip = omega arith
  prog_within Prog.Abort = omega arith
  prog_within (Prog.Assign x t) = omega arith
  prog_within (Prog.Seq a b) = omega (arith, prog_within a, prog_within b)
  prog_within (Prog.If e a b) = omega (arith, form_within e, prog_within a, prog_within b)
  prog_within (Prog.While e a) = omega (arith, form_within e, prog_within a)
  prog_within (Prog.Local s t a) = omega (arith, prog_within a)
  prog_within (Prog.Call p ts rs) = omega arith
  prog_within (Prog.Choice a b) = omega (arith, prog_within a, prog_within b)
