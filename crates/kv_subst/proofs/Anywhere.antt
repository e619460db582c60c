-- A free variable is called the same under any number of binders.
use Rattle.std.proofs.Common.{◌≡◌, ℕ, ◌+◌, refl}
use Rattle.std.specs.Prelude.{◌||◌}
use Rattle.kv_trees.specs.Trees.{Form, Prog}
use Rattle.kv_names.specs.declared.symbols.Var.{Var}
use Rattle.kv_trees.specs.declared.trees.Ref.TheVariants.{Free}
use Rattle.kv_trees.specs.Variables.{term_has, form_has, prog_has}

module _ (x : Var) where
  mutual
    pub form_anywhere : (j k : ℕ) (f : Form) → form_has (Free x) j f ≡ form_has (Free x) k f
    form_anywhere j k Form.True = refl
    form_anywhere j k Form.False = refl
    form_anywhere j k (Form.Atom p ts) = refl
    form_anywhere j k (Form.Equal s t) = refl
    form_anywhere j k (Form.Not f) = form_anywhere j k f
    form_anywhere j k (Form.And f g) = λ i. form_anywhere j k f i || form_anywhere j k g i
    form_anywhere j k (Form.Or f g) = λ i. form_anywhere j k f i || form_anywhere j k g i
    form_anywhere j k (Form.Imp f g) = λ i. form_anywhere j k f i || form_anywhere j k g i
    form_anywhere j k (Form.Iff f g) = λ i. form_anywhere j k f i || form_anywhere j k g i
    form_anywhere j k (Form.All s f) = form_anywhere (j + 1) (k + 1) f
    form_anywhere j k (Form.Ex s f) = form_anywhere (j + 1) (k + 1) f
    form_anywhere j k (Form.After a f) = λ i. prog_anywhere j k a i || form_anywhere j k f i
    form_anywhere j k (Form.Can a f) = λ i. prog_anywhere j k a i || form_anywhere j k f i

    pub prog_anywhere : (j k : ℕ) (a : Prog) → prog_has (Free x) j a ≡ prog_has (Free x) k a
    prog_anywhere j k Prog.Skip = refl
    prog_anywhere j k Prog.Abort = refl
    prog_anywhere j k (Prog.Assign y t) = refl
    prog_anywhere j k (Prog.Seq a b) = λ i. prog_anywhere j k a i || prog_anywhere j k b i
    prog_anywhere j k (Prog.If e a b) = λ i. form_anywhere j k e i || (prog_anywhere j k a i || prog_anywhere j k b i)
    prog_anywhere j k (Prog.While e a) = λ i. form_anywhere j k e i || prog_anywhere j k a i
    prog_anywhere j k (Prog.Local s t a) = λ i. term_has (Free x) t || prog_anywhere (j + 1) (k + 1) a i
    prog_anywhere j k (Prog.Call p ts rs) = refl
    prog_anywhere j k (Prog.Choice a b) = λ i. prog_anywhere j k a i || prog_anywhere j k b i
