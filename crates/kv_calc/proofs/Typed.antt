-- A change of variables keeps trees typed, where it does so for each variable and keeps the references of each call apart.
use Rattle.std.proofs.Common.{◌≡◌, ℕ, ◌+◌, List, [], ◌∷◌, ◌++◌, length, map, refl, sym, ap, ◌∙◌, subst, arith}
use Rattle.std.specs.Prelude.{Bool, true, false, ◌||◌}
use Rattle.kv_names.specs.Names.{Name}
use Rattle.kv_trees.specs.Trees.{Term, Terms, Form, Prog}
use Rattle.kv_names.specs.declared.symbols.Symbol.{Symbol}
use Rattle.kv_trees.specs.declared.trees.Ref.{Ref}
use Rattle.kv_sig.specs.Members.{In, Distinct}
use Rattle.kv_sig.specs.Typing.{IsVariable, IsTerm, AreTerms, AreVariables, IsForm, IsProg, has_program}
use Rattle.kv_subst.specs.Changing.{Change, variable_or, changed_term, changed_terms, changed_ref, changed_form, changed_prog}
use Rattle.kv_subst.specs.Fitting.{AllRefs, FormRefs, ProgRefs, IsPlace}

-- ---- conditions stay free of programs

pub programs_kept : (c : Change) (k : ℕ) (f : Form) → has_program (changed_form c k f) ≡ has_program f
programs_kept c k Form.True = refl
programs_kept c k Form.False = refl
programs_kept c k (Form.Atom p ts) = refl
programs_kept c k (Form.Equal s t) = refl
programs_kept c k (Form.Not f) = programs_kept c k f
programs_kept c k (Form.And f g) = λ i. programs_kept c k f i || programs_kept c k g i
programs_kept c k (Form.Or f g) = λ i. programs_kept c k f i || programs_kept c k g i
programs_kept c k (Form.Imp f g) = λ i. programs_kept c k f i || programs_kept c k g i
programs_kept c k (Form.Iff f g) = λ i. programs_kept c k f i || programs_kept c k g i
programs_kept c k (Form.All s f) = programs_kept c (k + 1) f
programs_kept c k (Form.Ex s f) = programs_kept c (k + 1) f
programs_kept c k (Form.After a f) = refl
programs_kept c k (Form.Can a f) = refl

-- ---- references

place_variable : (sig : List Symbol) (binders : List Name) (r : Ref) (s : Name) (t : Term) → IsPlace t → IsTerm sig binders t s → IsVariable sig binders (variable_or r t) s
place_variable sig binders r s (Term.Place q) p v = v
place_variable sig binders r s (Term.App f ts) p v = absurd p

cases_in : {A : Type 0} (P : Type 0) (x y : A) (ys : List A) → (x ≡ y → P) → (In x ys → P) → In x (y ∷ ys) → P
cases_in P x y ys h k In.here = h refl
cases_in P x y ys h k (In.there i) = k i

none_in : {A : Type 0} (x : A) → In x [] → ⊥
none_in x i = elim i [ ]

-- a function that can be taken back keeps references apart
module _ (to back : Ref → Ref) (Q : Ref → Type 0) (undone : (r : Ref) → Q r → back (to r) ≡ r) where
  same_before : (r q : Ref) → Q r → Q q → to r ≡ to q → r ≡ q
  same_before r q v w e = sym (undone r v) ∙ ap back e ∙ undone q w

  in_before : (r : Ref) (qs : List Ref) → Q r → AllRefs Q qs → In (to r) (map to qs) → In r qs
  in_before r [] v w i = absurd (none_in (to r) i)
  in_before r (q ∷ qs) v w i =
      cases_in (In r (q ∷ qs)) (to r) (to q) (map to qs)
      (λ e. subst (λ (z : Ref). In z (q ∷ qs)) (sym (same_before r q v w.0 e)) In.here)
      (λ j. In.there (in_before r qs v w.1 j))
      i

  pub kept_apart : (rs : List Ref) → AllRefs Q rs → Distinct rs → Distinct (map to rs)
  kept_apart [] v d = tt
  kept_apart (r ∷ rs) v d = ((λ i. d.0 (in_before r rs v.0 v.1 i)), kept_apart rs v.1 d.1)

-- ---- trees

module _ (sig : List Symbol) (old new : List Name) (c : Change) (P : ℕ → Ref → Type 0) (back : ℕ → Ref → Ref)
    (at_place : (k : ℕ) (inner : List Name) (r : Ref) (s : Name) → k ≡ length inner → IsVariable sig (inner ++ old) r s → IsTerm sig (inner ++ new) (c k r) s)
    (at_ref : (k : ℕ) (r : Ref) → P k r → IsPlace (c k r))
    (undone : (k : ℕ) (r : Ref) → P k r → back k (changed_ref (c k) r) ≡ r) where
  mutual
    term_typed : (k : ℕ) (inner : List Name) (t : Term) (s : Name) → k ≡ length inner → IsTerm sig (inner ++ old) t s → IsTerm sig (inner ++ new) (changed_term (c k) t) s
    term_typed k inner (Term.Place r) s n h = at_place k inner r s n h
    term_typed k inner (Term.App f ts) s n h = (h.0, h.1, terms_typed k inner ts h.0 n h.2)

    terms_typed : (k : ℕ) (inner : List Name) (ts : Terms) (sorts : List Name) → k ≡ length inner → AreTerms sig (inner ++ old) ts sorts → AreTerms sig (inner ++ new) (changed_terms (c k) ts) sorts
    terms_typed k inner Terms.none [] n h = tt
    terms_typed k inner Terms.none (s ∷ sorts) n h = absurd h
    terms_typed k inner (Terms.more t ts) [] n h = absurd h
    terms_typed k inner (Terms.more t ts) (s ∷ sorts) n h = (term_typed k inner t s n h.0, terms_typed k inner ts sorts n h.1)

  ref_typed : (k : ℕ) (inner : List Name) (r : Ref) (s : Name) → k ≡ length inner → P k r → IsVariable sig (inner ++ old) r s → IsVariable sig (inner ++ new) (changed_ref (c k) r) s
  ref_typed k inner r s n v h = place_variable sig (inner ++ new) r s (c k r) (at_ref k r v) (at_place k inner r s n h)

  refs_typed : (k : ℕ) (inner : List Name) (rs : List Ref) (sorts : List Name) → k ≡ length inner → AllRefs (P k) rs → AreVariables sig (inner ++ old) rs sorts → AreVariables sig (inner ++ new) (map (changed_ref (c k)) rs) sorts
  refs_typed k inner [] [] n v h = tt
  refs_typed k inner [] (s ∷ sorts) n v h = absurd h
  refs_typed k inner (r ∷ rs) [] n v h = absurd h
  refs_typed k inner (r ∷ rs) (s ∷ sorts) n v h = (ref_typed k inner r s n v.0 h.0, refs_typed k inner rs sorts n v.1 h.1)

  more : (k : ℕ) (s : Name) (inner : List Name) → k ≡ length inner → k + 1 ≡ length (s ∷ inner)
  more k s inner n = omega arith

  mutual
    pub form_typed : (k : ℕ) (inner : List Name) (f : Form) → k ≡ length inner → FormRefs P k f → IsForm sig (inner ++ old) f → IsForm sig (inner ++ new) (changed_form c k f)
    form_typed k inner Form.True n v h = tt
    form_typed k inner Form.False n v h = tt
    form_typed k inner (Form.Atom p ts) n v h = (h.0, h.1, terms_typed k inner ts h.0 n h.2)
    form_typed k inner (Form.Equal s t) n v h = (h.0, term_typed k inner s h.0 n h.1, term_typed k inner t h.0 n h.2)
    form_typed k inner (Form.Not f) n v h = form_typed k inner f n v h
    form_typed k inner (Form.And f g) n v h = (form_typed k inner f n v.0 h.0, form_typed k inner g n v.1 h.1)
    form_typed k inner (Form.Or f g) n v h = (form_typed k inner f n v.0 h.0, form_typed k inner g n v.1 h.1)
    form_typed k inner (Form.Imp f g) n v h = (form_typed k inner f n v.0 h.0, form_typed k inner g n v.1 h.1)
    form_typed k inner (Form.Iff f g) n v h = (form_typed k inner f n v.0 h.0, form_typed k inner g n v.1 h.1)
    form_typed k inner (Form.All s f) n v h = (h.0, form_typed (k + 1) (s ∷ inner) f (more k s inner n) v h.1)
    form_typed k inner (Form.Ex s f) n v h = (h.0, form_typed (k + 1) (s ∷ inner) f (more k s inner n) v h.1)
    form_typed k inner (Form.After a f) n v h = (prog_typed k inner a n v.0 h.0, form_typed k inner f n v.1 h.1)
    form_typed k inner (Form.Can a f) n v h = (prog_typed k inner a n v.0 h.0, form_typed k inner f n v.1 h.1)

    pub prog_typed : (k : ℕ) (inner : List Name) (a : Prog) → k ≡ length inner → ProgRefs P k a → IsProg sig (inner ++ old) a → IsProg sig (inner ++ new) (changed_prog c k a)
    prog_typed k inner Prog.Skip n v h = tt
    prog_typed k inner Prog.Abort n v h = tt
    prog_typed k inner (Prog.Assign x t) n v h = (h.0, ref_typed k inner x h.0 n v h.1, term_typed k inner t h.0 n h.2)
    prog_typed k inner (Prog.Seq a b) n v h = (prog_typed k inner a n v.0 h.0, prog_typed k inner b n v.1 h.1)
    prog_typed k inner (Prog.If e a b) n v h = (programs_kept c k e ∙ h.0, form_typed k inner e n v.0 h.1, prog_typed k inner a n v.1 h.2, prog_typed k inner b n v.2 h.3)
    prog_typed k inner (Prog.While e a) n v h = (programs_kept c k e ∙ h.0, form_typed k inner e n v.0 h.1, prog_typed k inner a n v.1 h.2)
    prog_typed k inner (Prog.Local s t a) n v h = (h.0, term_typed k inner t s n h.1, prog_typed (k + 1) (s ∷ inner) a (more k s inner n) v h.2)
    prog_typed k inner (Prog.Call p ts rs) n v h =
        (h.0, h.1, h.2, terms_typed k inner ts h.0 n h.3, refs_typed k inner rs h.1 n v h.4, kept_apart (changed_ref (c k)) (back k) (P k) (undone k) rs v h.5)
    prog_typed k inner (Prog.Choice a b) n v h = (prog_typed k inner a n v.0 h.0, prog_typed k inner b n v.1 h.1)
