-- What holds of every variable holds of each assigned variable and each reference of a tree.
use Rattle.std.proofs.Common.{ℕ, ◌+◌, List, [], ◌∷◌}
use Rattle.kv_trees.specs.Trees.{Form, Prog}
use Rattle.kv_trees.specs.declared.trees.Ref.{Ref}
use Rattle.kv_subst.specs.Fitting.{AllRefs, FormRefs, ProgRefs}

module _ (P : ℕ → Ref → Type 0) (all : (k : ℕ) (r : Ref) → P k r) where
  each_ref : (k : ℕ) (rs : List Ref) → AllRefs (P k) rs
  each_ref k [] = tt
  each_ref k (r ∷ rs) = (all k r, each_ref k rs)

  mutual
    pub form_refs : (k : ℕ) (f : Form) → FormRefs P k f
    form_refs k Form.True = tt
    form_refs k Form.False = tt
    form_refs k (Form.Atom p ts) = tt
    form_refs k (Form.Equal s t) = tt
    form_refs k (Form.Not f) = form_refs k f
    form_refs k (Form.And f g) = (form_refs k f, form_refs k g)
    form_refs k (Form.Or f g) = (form_refs k f, form_refs k g)
    form_refs k (Form.Imp f g) = (form_refs k f, form_refs k g)
    form_refs k (Form.Iff f g) = (form_refs k f, form_refs k g)
    form_refs k (Form.All s f) = form_refs (k + 1) f
    form_refs k (Form.Ex s f) = form_refs (k + 1) f
    form_refs k (Form.After a f) = (prog_refs k a, form_refs k f)
    form_refs k (Form.Can a f) = (prog_refs k a, form_refs k f)

    pub prog_refs : (k : ℕ) (a : Prog) → ProgRefs P k a
    prog_refs k Prog.Skip = tt
    prog_refs k Prog.Abort = tt
    prog_refs k (Prog.Assign x t) = all k x
    prog_refs k (Prog.Seq a b) = (prog_refs k a, prog_refs k b)
    prog_refs k (Prog.If e a b) = (form_refs k e, prog_refs k a, prog_refs k b)
    prog_refs k (Prog.While e a) = (form_refs k e, prog_refs k a)
    prog_refs k (Prog.Local s t a) = prog_refs (k + 1) a
    prog_refs k (Prog.Call p ts rs) = each_ref k rs
    prog_refs k (Prog.Choice a b) = (prog_refs k a, prog_refs k b)
