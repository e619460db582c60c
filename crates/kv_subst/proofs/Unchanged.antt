-- The change that leaves each variable leaves the tree.
use Rattle.std.proofs.Common.{◌≡◌, ℕ, ◌+◌, List, [], ◌∷◌, map, refl}
use Rattle.kv_trees.specs.Trees.{Term, Terms, Form, Prog}
use Rattle.kv_trees.specs.declared.trees.Ref.{Ref}
use Rattle.kv_subst.specs.Changing.{Change, changed_term, changed_terms, changed_ref, changed_form, changed_prog}

abbrev pub left : Change
left k r = Term.Place r

mutual
  pub term_left : (k : ℕ) (t : Term) → changed_term (left k) t ≡ t
  term_left k (Term.Place r) = refl
  term_left k (Term.App f ts) = λ i. Term.App f (terms_left k ts i)

  terms_left : (k : ℕ) (ts : Terms) → changed_terms (left k) ts ≡ ts
  terms_left k Terms.none = refl
  terms_left k (Terms.more t ts) = λ i. Terms.more (term_left k t i) (terms_left k ts i)

ref_left : (k : ℕ) (r : Ref) → changed_ref (left k) r ≡ r
ref_left k r = refl

refs_left : (k : ℕ) (rs : List Ref) → map (changed_ref (left k)) rs ≡ rs
refs_left k [] = refl
refs_left k (r ∷ rs) = λ i. r ∷ refs_left k rs i

mutual
  pub form_left : (k : ℕ) (f : Form) → changed_form left k f ≡ f
  form_left k Form.True = refl
  form_left k Form.False = refl
  form_left k (Form.Atom p ts) = λ i. Form.Atom p (terms_left k ts i)
  form_left k (Form.Equal s t) = λ i. Form.Equal (term_left k s i) (term_left k t i)
  form_left k (Form.Not f) = λ i. Form.Not (form_left k f i)
  form_left k (Form.And f g) = λ i. Form.And (form_left k f i) (form_left k g i)
  form_left k (Form.Or f g) = λ i. Form.Or (form_left k f i) (form_left k g i)
  form_left k (Form.Imp f g) = λ i. Form.Imp (form_left k f i) (form_left k g i)
  form_left k (Form.Iff f g) = λ i. Form.Iff (form_left k f i) (form_left k g i)
  form_left k (Form.All s f) = λ i. Form.All s (form_left (k + 1) f i)
  form_left k (Form.Ex s f) = λ i. Form.Ex s (form_left (k + 1) f i)
  form_left k (Form.After a f) = λ i. Form.After (prog_left k a i) (form_left k f i)
  form_left k (Form.Can a f) = λ i. Form.Can (prog_left k a i) (form_left k f i)

  pub prog_left : (k : ℕ) (a : Prog) → changed_prog left k a ≡ a
  prog_left k Prog.Skip = refl
  prog_left k Prog.Abort = refl
  prog_left k (Prog.Assign x t) = λ i. Prog.Assign (ref_left k x i) (term_left k t i)
  prog_left k (Prog.Seq a b) = λ i. Prog.Seq (prog_left k a i) (prog_left k b i)
  prog_left k (Prog.If e a b) = λ i. Prog.If (form_left k e i) (prog_left k a i) (prog_left k b i)
  prog_left k (Prog.While e a) = λ i. Prog.While (form_left k e i) (prog_left k a i)
  prog_left k (Prog.Local s t a) = λ i. Prog.Local s (term_left k t i) (prog_left (k + 1) a i)
  prog_left k (Prog.Call p ts rs) = λ i. Prog.Call p (terms_left k ts i) (refs_left k rs i)
  prog_left k (Prog.Choice a b) = λ i. Prog.Choice (prog_left k a i) (prog_left k b i)
