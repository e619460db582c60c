-- The laws of typing.
use Rattle.std.proofs.Common.{◌≡◌, ℕ, ◌+◌, List, [], ◌∷◌, ◌++◌, length, map, Some, None, refl, sym, ap, ◌∙◌, subst, inl, inr}
use Rattle.std.specs.Prelude.{Bool, true, false, not, ◌||◌, if◌then◌else◌}
use Rattle.std.proofs.lemmas.Bool.{cond-true, cond-false, cases_Bool, or_cases, not-true, or_from}
use Rattle.kv_trees.specs.Same.{var_eq, ref_eq}
use Rattle.kv_names.specs.Names.{Name}
use Rattle.kv_trees.specs.Trees.{Term, Terms, Form, Prog}
use Rattle.kv_names.specs.declared.symbols.Symbol.{Symbol}
use Rattle.kv_names.specs.declared.symbols.Var.{Var}
use Rattle.kv_trees.specs.declared.trees.Ref.{Ref}
use Rattle.kv_trees.specs.declared.trees.Ref.TheVariants.{Free, Bound}
use Rattle.kv_trees.specs.Variables.{raised_ref, form_has, prog_has}
use Rattle.kv_sig.specs.FreeNames.{free_ref, free_refs, free_term, free_terms, free_form, free_prog}
use Rattle.kv_sig.specs.Typing.{IsVariable, IsTerm, IsForm, IsProg}
use Rattle.kv_subst.specs.Changing.{Change, changed_term, changed_terms, changed_ref, changed_form, changed_prog}
use Rattle.kv_subst.specs.Opening.{raised_var, opened, closed, closed_var, renamed, renamed_var, form_keeps, prog_keeps, is_new, is_admissible}
use Rattle.kv_subst.specs.Fitting.{FormRefs, ProgRefs, IsPlace}
use Rattle.kv_subst.specs.Laws.{as_named}
use Rattle.kv_calc.specs.Typings as law
use Rattle.kv_calc.specs.Typings.{with_name}
use Rattle.kv_subst.proofs.Single.{variable_fits, not_here_fits}
use Rattle.kv_subst.proofs.Refs.{form_refs, prog_refs}
use Rattle.kv_subst.proofs.Anywhere.{form_anywhere, prog_anywhere}
use Rattle.kv_calc.proofs.Backs.{reclosed, variable_undone, term_undone, reopened, closing_undone, renamed_back, renaming_undone}
use Rattle.kv_calc.proofs.Apart.{IsOther, IsOuter, form_other, prog_other, form_unbound}
use Rattle.kv_calc.proofs.TypedPlaces.{opened_typed, closed_typed, renamed_typed}
use Rattle.kv_calc.proofs.Typed.{form_typed, prog_typed}

-- ---- opening

module _ (sig : List Symbol) (binders : List Name) (sort : Name) where
  -- where the bound variable is none of the references
  form_at_term : (t : Term) (f : Form) → IsTerm sig binders t sort → FormRefs (IsOther (Bound 0)) 0 f → IsForm sig (sort ∷ binders) f → IsForm sig binders (changed_form (opened t) 0 f)
  form_at_term t f v o h =
      form_typed sig (sort ∷ binders) binders (opened t) (IsOther (Bound 0)) (raised_var 1) (opened_typed sig binders sort t v) (λ k r e. not_here_fits t k r e) (λ k r e. term_undone t k r e) 0 [] f refl o h

  -- at a variable that is none of the references
  form_at_variable : (r : Ref) (f : Form) → IsTerm sig binders (Term.Place r) sort → FormRefs (IsOuter r) 0 f → IsForm sig (sort ∷ binders) f → IsForm sig binders (changed_form (opened (Term.Place r)) 0 f)
  form_at_variable r f v o h =
      form_typed sig (sort ∷ binders) binders (opened (Term.Place r)) (IsOuter r) (reclosed r) (opened_typed sig binders sort (Term.Place r) v) (λ k q e. variable_fits r k q) (λ k q e. variable_undone r k q e) 0 [] f refl o h

  form_at_new : (t : Term) (f : Form) → is_new f t ≡ true → IsTerm sig binders t sort → IsForm sig (sort ∷ binders) f → IsForm sig binders (changed_form (opened t) 0 f)
  form_at_new (Term.App g ts) f n v h = absurd (cc)
  form_at_new (Term.Place r) f n v h = form_at_variable r f v (form_other r 0 f (not-true (form_has r 1 f) n)) h

  pub form_opened : (t : Term) (f : Form) → is_admissible f t ≡ true → IsTerm sig binders t sort → IsForm sig (sort ∷ binders) f → IsForm sig binders (changed_form (opened t) 0 f)
  unfolding is_admissible
  form_opened t f e v h = elim (or_cases (form_keeps t 0 f) (is_new f t) e) [
    | inl k ↦ form_at_term t f v (form_unbound t 0 f k) h
    | inr n ↦ form_at_new t f n v h
  ]

-- the value of a choice that has one
chosen : {A : Type 0} (b : Bool) (x y : A) → (if b then Some x else None) ≡ Some y → (b ≡ true) × (x ≡ y)
chosen true x y e = (refl, cc)
chosen false x y e = absurd (cc)

pub opening_typed : law.OpeningTyped
opening_typed = record {
  of_form = λ sig binders sort t f g v h e.
      let p = chosen (is_admissible f t) (changed_form (opened t) 0 f) g e in
      subst (IsForm sig binders) p.1 (form_opened sig binders sort t f p.0 v h);
  of_prog = λ sig binders sort t a b v h e.
      let p = chosen (is_admissible (Form.After a Form.True) t) (changed_prog (opened t) 0 a) b e in
      subst (IsProg sig binders) p.1 (form_opened sig binders sort t (Form.After a Form.True) p.0 v (h, tt)).0;
}

-- ---- closing

-- no condition on references
abbrev Any : ℕ → Ref → Type 0
Any k r = Unit {0}

pub closing_typed : law.ClosingTyped
closing_typed = record {
  of_form = λ sig binders x f h.
      form_typed sig binders (x.sort ∷ binders) (closed x) Any (reopened x) (closed_typed sig binders x) (λ k r v. tt) (λ k r v. closing_undone x k r) 0 [] f refl (form_refs Any (λ k r. tt) 0 f) h;
  of_prog = λ sig binders x a h.
      prog_typed sig binders (x.sort ∷ binders) (closed x) Any (reopened x) (closed_typed sig binders x) (λ k r v. tt) (λ k r v. closing_undone x k r) 0 [] a refl (prog_refs Any (λ k r. tt) 0 a) h;
}

-- ---- renaming

module _ (x : Var) (to : Name) where
  abbrev by_name : Var
  by_name = record { name = to; sort = x.sort }

  abbrev named : Ref → Ref
  named = renamed_var x to

  abbrev naming : Var → Var
  naming = with_name x to

  joined : (xs ys : List Var) → map naming (xs ++ ys) ≡ map naming xs ++ map naming ys
  joined [] ys = refl
  joined (y ∷ xs) ys = ap (λ zs. naming y ∷ zs) (joined xs ys)

  both : (xs ys xs' ys' : List Var) → xs' ≡ map naming xs → ys' ≡ map naming ys → xs' ++ ys' ≡ map naming (xs ++ ys)
  both xs ys xs' ys' p q = (λ i. p i ++ q i) ∙ sym (joined xs ys)

  free_at : (r : Ref) → free_ref (named r) ≡ map naming (free_ref r)
  free_at (Free y) = refl
  free_at (Bound m) = refl

  free_at_refs : (rs : List Ref) → free_refs (map named rs) ≡ map naming (free_refs rs)
  free_at_refs [] = refl
  free_at_refs (r ∷ rs) = both (free_ref r) (free_refs rs) (free_ref (named r)) (free_refs (map named rs)) (free_at r) (free_at_refs rs)

  mutual
    free_term_named : (k : ℕ) (t : Term) → free_term (changed_term (renamed x to k) t) ≡ map naming (free_term t)
    free_term_named k (Term.Place r) = free_at r
    free_term_named k (Term.App f ts) = free_terms_named k ts

    free_terms_named : (k : ℕ) (ts : Terms) → free_terms (changed_terms (renamed x to k) ts) ≡ map naming (free_terms ts)
    free_terms_named k Terms.none = refl
    free_terms_named k (Terms.more t ts) = both (free_term t) (free_terms ts) (free_term (changed_term (renamed x to k) t)) (free_terms (changed_terms (renamed x to k) ts)) (free_term_named k t) (free_terms_named k ts)

  abbrev form_of : ℕ → Form → List Var
  form_of k f = free_form (changed_form (renamed x to) k f)

  abbrev prog_of : ℕ → Prog → List Var
  prog_of k a = free_prog (changed_prog (renamed x to) k a)

  mutual
    pub free_form_named : (k : ℕ) (f : Form) → form_of k f ≡ map naming (free_form f)
    free_form_named k Form.True = refl
    free_form_named k Form.False = refl
    free_form_named k (Form.Atom p ts) = free_terms_named k ts
    free_form_named k (Form.Equal s t) = both (free_term s) (free_term t) (free_term (changed_term (renamed x to k) s)) (free_term (changed_term (renamed x to k) t)) (free_term_named k s) (free_term_named k t)
    free_form_named k (Form.Not f) = free_form_named k f
    free_form_named k (Form.And f g) = both (free_form f) (free_form g) (form_of k f) (form_of k g) (free_form_named k f) (free_form_named k g)
    free_form_named k (Form.Or f g) = both (free_form f) (free_form g) (form_of k f) (form_of k g) (free_form_named k f) (free_form_named k g)
    free_form_named k (Form.Imp f g) = both (free_form f) (free_form g) (form_of k f) (form_of k g) (free_form_named k f) (free_form_named k g)
    free_form_named k (Form.Iff f g) = both (free_form f) (free_form g) (form_of k f) (form_of k g) (free_form_named k f) (free_form_named k g)
    free_form_named k (Form.All s f) = free_form_named (k + 1) f
    free_form_named k (Form.Ex s f) = free_form_named (k + 1) f
    free_form_named k (Form.After a f) = both (free_prog a) (free_form f) (prog_of k a) (form_of k f) (free_prog_named k a) (free_form_named k f)
    free_form_named k (Form.Can a f) = both (free_prog a) (free_form f) (prog_of k a) (form_of k f) (free_prog_named k a) (free_form_named k f)

    pub free_prog_named : (k : ℕ) (a : Prog) → prog_of k a ≡ map naming (free_prog a)
    free_prog_named k Prog.Skip = refl
    free_prog_named k Prog.Abort = refl
    free_prog_named k (Prog.Assign r t) = both (free_ref r) (free_term t) (free_ref (named r)) (free_term (changed_term (renamed x to k) t)) (free_at r) (free_term_named k t)
    free_prog_named k (Prog.Seq a b) = both (free_prog a) (free_prog b) (prog_of k a) (prog_of k b) (free_prog_named k a) (free_prog_named k b)
    free_prog_named k (Prog.If e a b) =
        both (free_form e) (free_prog a ++ free_prog b) (form_of k e) (prog_of k a ++ prog_of k b) (free_form_named k e)
        (both (free_prog a) (free_prog b) (prog_of k a) (prog_of k b) (free_prog_named k a) (free_prog_named k b))
    free_prog_named k (Prog.While e a) = both (free_form e) (free_prog a) (form_of k e) (prog_of k a) (free_form_named k e) (free_prog_named k a)
    free_prog_named k (Prog.Local s t a) = both (free_term t) (free_prog a) (free_term (changed_term (renamed x to k) t)) (prog_of (k + 1) a) (free_term_named k t) (free_prog_named (k + 1) a)
    free_prog_named k (Prog.Call p ts rs) =
        both (free_terms ts) (free_refs rs) (free_terms (changed_terms (renamed x to k) ts)) (free_refs (map named rs)) (free_terms_named k ts) (free_at_refs rs)
    free_prog_named k (Prog.Choice a b) = both (free_prog a) (free_prog b) (prog_of k a) (prog_of k b) (free_prog_named k a) (free_prog_named k b)

  abbrev back : ℕ → Ref → Ref
  back k q = renamed_back x to q

  form_renamed : (sig : List Symbol) (binders : List Name) (f : Form) → form_has (as_named x to) 0 f ≡ false → IsForm sig binders f → IsForm sig binders (changed_form (renamed x to) 0 f)
  form_renamed sig binders f e h =
      form_typed sig binders binders (renamed x to) (IsOuter (as_named x to)) back (λ k inner r s n v. renamed_typed sig (inner ++ binders) x to r s v) (λ k r v. tt) (λ k r v. renaming_undone x to r v)
      0 [] f refl (form_other (as_named x to) 0 f (form_anywhere by_name 1 0 f ∙ e)) h

  prog_renamed : (sig : List Symbol) (binders : List Name) (a : Prog) → prog_has (as_named x to) 0 a ≡ false → IsProg sig binders a → IsProg sig binders (changed_prog (renamed x to) 0 a)
  prog_renamed sig binders a e h =
      prog_typed sig binders binders (renamed x to) (IsOuter (as_named x to)) back (λ k inner r s n v. renamed_typed sig (inner ++ binders) x to r s v) (λ k r v. tt) (λ k r v. renaming_undone x to r v)
      0 [] a refl (prog_other (as_named x to) 0 a (prog_anywhere by_name 1 0 a ∙ e)) h

pub renaming_typed : law.RenamingTyped
renaming_typed = record {
  of_form = λ sig binders x to f e h. form_renamed x to sig binders f e h;
  of_prog = λ sig binders x to a e h. prog_renamed x to sig binders a e h;
  free_in_form = λ x to f. free_form_named x to 0 f;
  free_in_prog = λ x to a. free_prog_named x to 0 a;
}
