-- Two changes one after the other do to a tree what two others do, where they do the same to each variable.
use Rattle.std.proofs.Common.{◌≡◌, ℕ, ◌+◌, List, [], ◌∷◌, map, refl}
use Rattle.kv_trees.specs.Trees.{Term, Terms, Form, Prog}
use Rattle.kv_trees.specs.declared.trees.Ref.{Ref}
use Rattle.kv_subst.specs.Changing.{Change, changed_term, changed_terms, changed_ref, changed_form, changed_prog}
use Rattle.kv_subst.specs.Fitting.{AllRefs, FormRefs, ProgRefs}

module _ (c d c' d' : Change) (P : ℕ → Ref → Type 0)
    (at_place : (k : ℕ) (r : Ref) → changed_term (d k) (c k r) ≡ changed_term (d' k) (c' k r))
    (at_ref : (k : ℕ) (r : Ref) → P k r → changed_ref (d k) (changed_ref (c k) r) ≡ changed_ref (d' k) (changed_ref (c' k) r)) where
  mutual
    pub term_twice : (k : ℕ) (t : Term) → changed_term (d k) (changed_term (c k) t) ≡ changed_term (d' k) (changed_term (c' k) t)
    term_twice k (Term.Place r) = at_place k r
    term_twice k (Term.App f ts) = λ i. Term.App f (terms_twice k ts i)

    terms_twice : (k : ℕ) (ts : Terms) → changed_terms (d k) (changed_terms (c k) ts) ≡ changed_terms (d' k) (changed_terms (c' k) ts)
    terms_twice k Terms.none = refl
    terms_twice k (Terms.more t ts) = λ i. Terms.more (term_twice k t i) (terms_twice k ts i)

  refs_twice : (k : ℕ) (rs : List Ref) → AllRefs (P k) rs → map (changed_ref (d k)) (map (changed_ref (c k)) rs) ≡ map (changed_ref (d' k)) (map (changed_ref (c' k)) rs)
  refs_twice k [] v = refl
  refs_twice k (r ∷ rs) v = λ i. at_ref k r v.0 i ∷ refs_twice k rs v.1 i

  mutual
    pub form_twice : (k : ℕ) (f : Form) → FormRefs P k f → changed_form d k (changed_form c k f) ≡ changed_form d' k (changed_form c' k f)
    form_twice k Form.True v = refl
    form_twice k Form.False v = refl
    form_twice k (Form.Atom p ts) v = λ i. Form.Atom p (terms_twice k ts i)
    form_twice k (Form.Equal s t) v = λ i. Form.Equal (term_twice k s i) (term_twice k t i)
    form_twice k (Form.Not f) v = λ i. Form.Not (form_twice k f v i)
    form_twice k (Form.And f g) v = λ i. Form.And (form_twice k f v.0 i) (form_twice k g v.1 i)
    form_twice k (Form.Or f g) v = λ i. Form.Or (form_twice k f v.0 i) (form_twice k g v.1 i)
    form_twice k (Form.Imp f g) v = λ i. Form.Imp (form_twice k f v.0 i) (form_twice k g v.1 i)
    form_twice k (Form.Iff f g) v = λ i. Form.Iff (form_twice k f v.0 i) (form_twice k g v.1 i)
    form_twice k (Form.All s f) v = λ i. Form.All s (form_twice (k + 1) f v i)
    form_twice k (Form.Ex s f) v = λ i. Form.Ex s (form_twice (k + 1) f v i)
    form_twice k (Form.After a f) v = λ i. Form.After (prog_twice k a v.0 i) (form_twice k f v.1 i)
    form_twice k (Form.Can a f) v = λ i. Form.Can (prog_twice k a v.0 i) (form_twice k f v.1 i)

    pub prog_twice : (k : ℕ) (a : Prog) → ProgRefs P k a → changed_prog d k (changed_prog c k a) ≡ changed_prog d' k (changed_prog c' k a)
    prog_twice k Prog.Skip v = refl
    prog_twice k Prog.Abort v = refl
    prog_twice k (Prog.Assign x t) v = λ i. Prog.Assign (at_ref k x v i) (term_twice k t i)
    prog_twice k (Prog.Seq a b) v = λ i. Prog.Seq (prog_twice k a v.0 i) (prog_twice k b v.1 i)
    prog_twice k (Prog.If e a b) v = λ i. Prog.If (form_twice k e v.0 i) (prog_twice k a v.1 i) (prog_twice k b v.2 i)
    prog_twice k (Prog.While e a) v = λ i. Prog.While (form_twice k e v.0 i) (prog_twice k a v.1 i)
    prog_twice k (Prog.Local s t a) v = λ i. Prog.Local s (term_twice k t i) (prog_twice (k + 1) a v i)
    prog_twice k (Prog.Call p ts rs) v = λ i. Prog.Call p (terms_twice k ts i) (refs_twice k rs v i)
    prog_twice k (Prog.Choice a b) v = λ i. Prog.Choice (prog_twice k a v.0 i) (prog_twice k b v.1 i)
