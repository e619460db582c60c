-- A change under one binder more.
use Rattle.std.proofs.Common.{◌≡◌, ℕ, ◌+◌, refl}
use Rattle.kv_trees.specs.Trees.{Form, Prog}
use Rattle.kv_subst.specs.Changing.{Change, changed_term, changed_form, changed_prog}

abbrev pub inside : Change → Change
inside c k r = c (k + 1) r

module _ (c : Change) where
  mutual
    pub form_inside : (k : ℕ) (f : Form) → changed_form c (k + 1) f ≡ changed_form (inside c) k f
    form_inside k Form.True = refl
    form_inside k Form.False = refl
    form_inside k (Form.Atom p ts) = refl
    form_inside k (Form.Equal s t) = refl
    form_inside k (Form.Not f) = λ i. Form.Not (form_inside k f i)
    form_inside k (Form.And f g) = λ i. Form.And (form_inside k f i) (form_inside k g i)
    form_inside k (Form.Or f g) = λ i. Form.Or (form_inside k f i) (form_inside k g i)
    form_inside k (Form.Imp f g) = λ i. Form.Imp (form_inside k f i) (form_inside k g i)
    form_inside k (Form.Iff f g) = λ i. Form.Iff (form_inside k f i) (form_inside k g i)
    form_inside k (Form.All s f) = λ i. Form.All s (form_inside (k + 1) f i)
    form_inside k (Form.Ex s f) = λ i. Form.Ex s (form_inside (k + 1) f i)
    form_inside k (Form.After a f) = λ i. Form.After (prog_inside k a i) (form_inside k f i)
    form_inside k (Form.Can a f) = λ i. Form.Can (prog_inside k a i) (form_inside k f i)

    pub prog_inside : (k : ℕ) (a : Prog) → changed_prog c (k + 1) a ≡ changed_prog (inside c) k a
    prog_inside k Prog.Skip = refl
    prog_inside k Prog.Abort = refl
    prog_inside k (Prog.Assign x t) = refl
    prog_inside k (Prog.Seq a b) = λ i. Prog.Seq (prog_inside k a i) (prog_inside k b i)
    prog_inside k (Prog.If e a b) = λ i. Prog.If (form_inside k e i) (prog_inside k a i) (prog_inside k b i)
    prog_inside k (Prog.While e a) = λ i. Prog.While (form_inside k e i) (prog_inside k a i)
    prog_inside k (Prog.Local s t a) = λ i. Prog.Local s (changed_term (c (k + 1)) t) (prog_inside (k + 1) a i)
    prog_inside k (Prog.Call p ts rs) = refl
    prog_inside k (Prog.Choice a b) = λ i. Prog.Choice (prog_inside k a i) (prog_inside k b i)
