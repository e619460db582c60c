-- The free variables and the assumed procedures of a changed tree.
use Rattle.std.proofs.Common.{ℕ, ◌+◌, List, [], ◌∷◌, ◌++◌, map, inl, inr, ◌≡◌, refl}
use Rattle.kv_trees.specs.Trees.{Term, Terms, Form, Prog}
use Rattle.kv_names.specs.declared.symbols.Var.{Var}
use Rattle.kv_trees.specs.declared.trees.Ref.{Ref}
use Rattle.kv_sig.specs.FreeNames.{free_ref, free_refs, free_term, free_terms, free_form, free_prog, assumed_form, assumed_prog}
use Rattle.kv_subst.specs.Changing.{Change, changed_term, changed_terms, variable_or, changed_ref, changed_form, changed_prog}
use Rattle.kv_calc.proofs.Members.{Sub, in_front, in_back, in_either}

-- two lists whose items are items of two others, or of a third one
pub sub_both : {A : Type 0} (us vs xs ys zs : List A) → Sub us (xs ++ zs) → Sub vs (ys ++ zs) → Sub (us ++ vs) ((xs ++ ys) ++ zs)
sub_both us vs xs ys zs h k x i = elim (in_either us vs i) [
  | inl j ↦ elim (in_either xs zs (h x j)) [ inl a ↦ in_front zs (in_front ys a) | inr b ↦ in_back (xs ++ ys) b ]
  | inr j ↦ elim (in_either ys zs (k x j)) [ inl a ↦ in_front zs (in_back xs a) | inr b ↦ in_back (xs ++ ys) b ]
]

-- the variable of a term that comes for a variable
ref_where : (names : List Var) (r : Ref) (t : Term) → Sub (free_term t) (free_ref r ++ names) → Sub (free_ref (variable_or r t)) (free_ref r ++ names)
ref_where names r (Term.Place q) h = h
ref_where names r (Term.App f ts) h = λ x i. in_front names i

-- a change that gives a variable's own name or one of these
module _ (c : Change) (names : List Var) (at : (k : ℕ) (r : Ref) → Sub (free_term (c k r)) (free_ref r ++ names)) where
  both : (us vs xs ys : List Var) → Sub us (xs ++ names) → Sub vs (ys ++ names) → Sub (us ++ vs) ((xs ++ ys) ++ names)
  both us vs xs ys = sub_both us vs xs ys names

  none : {zs : List Var} → Sub [] zs
  none x i = elim i [ ]

  mutual
    term_names : (k : ℕ) (t : Term) → Sub (free_term (changed_term (c k) t)) (free_term t ++ names)
    term_names k (Term.Place r) = at k r
    term_names k (Term.App f ts) = terms_names k ts

    terms_names : (k : ℕ) (ts : Terms) → Sub (free_terms (changed_terms (c k) ts)) (free_terms ts ++ names)
    terms_names k Terms.none = none
    terms_names k (Terms.more t ts) = both (free_term (changed_term (c k) t)) (free_terms (changed_terms (c k) ts)) (free_term t) (free_terms ts) (term_names k t) (terms_names k ts)

  ref_names : (k : ℕ) (r : Ref) → Sub (free_ref (changed_ref (c k) r)) (free_ref r ++ names)
  ref_names k r = ref_where names r (c k r) (at k r)

  refs_names : (k : ℕ) (rs : List Ref) → Sub (free_refs (map (changed_ref (c k)) rs)) (free_refs rs ++ names)
  refs_names k [] = none
  refs_names k (r ∷ rs) = both (free_ref (changed_ref (c k) r)) (free_refs (map (changed_ref (c k)) rs)) (free_ref r) (free_refs rs) (ref_names k r) (refs_names k rs)

  mutual
    pub form_names : (k : ℕ) (f : Form) → Sub (free_form (changed_form c k f)) (free_form f ++ names)
    form_names k Form.True = none
    form_names k Form.False = none
    form_names k (Form.Atom p ts) = terms_names k ts
    form_names k (Form.Equal s t) = both (free_term (changed_term (c k) s)) (free_term (changed_term (c k) t)) (free_term s) (free_term t) (term_names k s) (term_names k t)
    form_names k (Form.Not f) = form_names k f
    form_names k (Form.And f g) = both (free_form (changed_form c k f)) (free_form (changed_form c k g)) (free_form f) (free_form g) (form_names k f) (form_names k g)
    form_names k (Form.Or f g) = both (free_form (changed_form c k f)) (free_form (changed_form c k g)) (free_form f) (free_form g) (form_names k f) (form_names k g)
    form_names k (Form.Imp f g) = both (free_form (changed_form c k f)) (free_form (changed_form c k g)) (free_form f) (free_form g) (form_names k f) (form_names k g)
    form_names k (Form.Iff f g) = both (free_form (changed_form c k f)) (free_form (changed_form c k g)) (free_form f) (free_form g) (form_names k f) (form_names k g)
    form_names k (Form.All s f) = form_names (k + 1) f
    form_names k (Form.Ex s f) = form_names (k + 1) f
    form_names k (Form.After a f) = both (free_prog (changed_prog c k a)) (free_form (changed_form c k f)) (free_prog a) (free_form f) (prog_names k a) (form_names k f)
    form_names k (Form.Can a f) = both (free_prog (changed_prog c k a)) (free_form (changed_form c k f)) (free_prog a) (free_form f) (prog_names k a) (form_names k f)

    prog_names : (k : ℕ) (a : Prog) → Sub (free_prog (changed_prog c k a)) (free_prog a ++ names)
    prog_names k Prog.Skip = none
    prog_names k Prog.Abort = none
    prog_names k (Prog.Assign x t) = both (free_ref (changed_ref (c k) x)) (free_term (changed_term (c k) t)) (free_ref x) (free_term t) (ref_names k x) (term_names k t)
    prog_names k (Prog.Seq a b) = both (free_prog (changed_prog c k a)) (free_prog (changed_prog c k b)) (free_prog a) (free_prog b) (prog_names k a) (prog_names k b)
    prog_names k (Prog.If e a b) =
        both (free_form (changed_form c k e)) (free_prog (changed_prog c k a) ++ free_prog (changed_prog c k b)) (free_form e) (free_prog a ++ free_prog b) (form_names k e)
        (both (free_prog (changed_prog c k a)) (free_prog (changed_prog c k b)) (free_prog a) (free_prog b) (prog_names k a) (prog_names k b))
    prog_names k (Prog.While e a) = both (free_form (changed_form c k e)) (free_prog (changed_prog c k a)) (free_form e) (free_prog a) (form_names k e) (prog_names k a)
    prog_names k (Prog.Local s t a) = both (free_term (changed_term (c k) t)) (free_prog (changed_prog c (k + 1) a)) (free_term t) (free_prog a) (term_names k t) (prog_names (k + 1) a)
    prog_names k (Prog.Call p ts rs) =
        both (free_terms (changed_terms (c k) ts)) (free_refs (map (changed_ref (c k)) rs)) (free_terms ts) (free_refs rs) (terms_names k ts) (refs_names k rs)
    prog_names k (Prog.Choice a b) = both (free_prog (changed_prog c k a)) (free_prog (changed_prog c k b)) (free_prog a) (free_prog b) (prog_names k a) (prog_names k b)

-- a change calls no other procedures
module _ (c : Change) where
  mutual
    pub same_assumed : (k : ℕ) (f : Form) → assumed_form (changed_form c k f) ≡ assumed_form f
    same_assumed k Form.True = refl
    same_assumed k Form.False = refl
    same_assumed k (Form.Atom p ts) = refl
    same_assumed k (Form.Equal s t) = refl
    same_assumed k (Form.Not f) = same_assumed k f
    same_assumed k (Form.And f g) = λ i. same_assumed k f i ++ same_assumed k g i
    same_assumed k (Form.Or f g) = λ i. same_assumed k f i ++ same_assumed k g i
    same_assumed k (Form.Imp f g) = λ i. same_assumed k f i ++ same_assumed k g i
    same_assumed k (Form.Iff f g) = λ i. same_assumed k f i ++ same_assumed k g i
    same_assumed k (Form.All s f) = same_assumed (k + 1) f
    same_assumed k (Form.Ex s f) = same_assumed (k + 1) f
    same_assumed k (Form.After a f) = λ i. same_called k a i ++ same_assumed k f i
    same_assumed k (Form.Can a f) = λ i. same_called k a i ++ same_assumed k f i

    same_called : (k : ℕ) (a : Prog) → assumed_prog (changed_prog c k a) ≡ assumed_prog a
    same_called k Prog.Skip = refl
    same_called k Prog.Abort = refl
    same_called k (Prog.Assign x t) = refl
    same_called k (Prog.Seq a b) = λ i. same_called k a i ++ same_called k b i
    same_called k (Prog.If e a b) = λ i. same_assumed k e i ++ (same_called k a i ++ same_called k b i)
    same_called k (Prog.While e a) = λ i. same_assumed k e i ++ same_called k a i
    same_called k (Prog.Local s t a) = same_called (k + 1) a
    same_called k (Prog.Call p ts rs) = refl
    same_called k (Prog.Choice a b) = λ i. same_called k a i ++ same_called k b i
