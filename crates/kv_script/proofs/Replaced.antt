-- A replacement keeps a formula typed where its two terms have one sort, and its names are those of the formula and of the term
-- that is put in.
use Rattle.std.proofs.Common.{◌≡◌, ℕ, ◌+◌, List, [], ◌∷◌, ◌++◌, length, Option, Some, refl, sym, ap, ◌∙◌, subst, arith}
use Rattle.std.specs.Prelude.{Bool, true, false, if◌then◌else◌}
use Rattle.kv_trees.specs.Same.{term_eq}
use Rattle.kv_names.specs.Names.{Name}
use Rattle.kv_trees.specs.Trees.{Term, Terms, Form}
use Rattle.kv_names.specs.declared.symbols.Profile.{Profile}
use Rattle.kv_names.specs.declared.symbols.Profile.TheVariants.{Fun}
use Rattle.kv_names.specs.declared.symbols.Symbol.{Symbol}
use Rattle.kv_names.specs.declared.symbols.Var.{Var}
use Rattle.kv_trees.specs.declared.trees.Ref.TheVariants.{Free, Bound}
use Rattle.kv_trees.proofs.Same.{term_is}
use Rattle.kv_sig.specs.FreeNames.{free_term, free_terms, free_form, free_prog, assumed_form, assumed_prog}
use Rattle.kv_sig.specs.Members.{In}
use Rattle.kv_sig.specs.Typing.{IsTerm, AreTerms, IsForm}
use Rattle.kv_subst.specs.Opening.{raised_term}
use Rattle.kv_calc.proofs.TypedPlaces.{term_lifted}
use Rattle.kv_calc.proofs.Changed.{sub_both}
use Rattle.kv_calc.proofs.Members.{Sub, in_front, in_back}
use Rattle.kv_calc.proofs.Openings.{free_raised}
use Rattle.kv_prop.specs.Replacing.{replaced_term, replaced_terms, replaced_form, touches}

-- ---- types

-- a term has one sort
name_is : (s t : Name) → ◌≡◌ {A = Option Name} (Some s) (Some t) → s ≡ t
name_is s t e = cc

fun_is : (args others : List Name) (s t : Name) → ◌≡◌ {A = Option Profile} (Some (Fun args s)) (Some (Fun others t)) → s ≡ t
fun_is args others s t e = cc

pub one_sort : (sig : List Symbol) (binders : List Name) (t : Term) (s r : Name) → IsTerm sig binders t s → IsTerm sig binders t r → s ≡ r
one_sort sig binders (Term.Place (Free x)) s r h k = sym h.0 ∙ k.0
one_sort sig binders (Term.Place (Bound n)) s r h k = name_is s r (sym h ∙ k)
one_sort sig binders (Term.App f ts) s r h k = fun_is h.0 k.0 s r (sym h.1 ∙ k.1)

module _ (sig : List Symbol) (binders : List Name) (t u : Term) (sort : Name) (old : IsTerm sig binders t sort) (new : IsTerm sig binders u sort) where
  -- at a place that is equal to t, or isn't
  place_where : (v w : Term) (s : Name) (b : Bool) → term_eq v t ≡ b → IsTerm sig binders v s → IsTerm sig binders w s → IsTerm sig binders (if b then u else w) s
  place_where v w s true e h k = subst (IsTerm sig binders u) (one_sort sig binders t sort s old (subst (λ z. IsTerm sig binders z s) (term_is v t e) h)) new
  place_where v w s false e h k = k

  mutual
    pub term_replaced : (v : Term) (s : Name) → IsTerm sig binders v s → IsTerm sig binders (replaced_term t u v) s
    term_replaced (Term.Place r) s h = place_where (Term.Place r) (Term.Place r) s (term_eq (Term.Place r) t) refl h h
    term_replaced (Term.App f ts) s h =
        place_where (Term.App f ts) (Term.App f (replaced_terms t u ts)) s (term_eq (Term.App f ts) t) refl h (h.0, h.1, terms_replaced ts h.0 h.2)

    pub terms_replaced : (ts : Terms) (sorts : List Name) → AreTerms sig binders ts sorts → AreTerms sig binders (replaced_terms t u ts) sorts
    terms_replaced Terms.none [] h = tt
    terms_replaced Terms.none (s ∷ sorts) h = absurd h
    terms_replaced (Terms.more v ts) [] h = absurd h
    terms_replaced (Terms.more v ts) (s ∷ sorts) h = (term_replaced v s h.0, terms_replaced ts sorts h.1)

pub behind_typed : (sig : List Symbol) (binders : List Name) (b : Bool) (f g : Form) → IsForm sig binders f → IsForm sig binders g → IsForm sig binders (if b then f else g)
behind_typed sig binders true f g h k = h
behind_typed sig binders false f g h k = k

module _ (sig : List Symbol) (outer : List Name) (t u : Term) (sort : Name) (old : IsTerm sig outer t sort) (new : IsTerm sig outer u sort) where
  module _ (k : ℕ) (inner : List Name) (n : k ≡ length inner) where
    within : (v : Term) (s : Name) → IsTerm sig (inner ++ outer) v s → IsTerm sig (inner ++ outer) (replaced_term (raised_term k t) (raised_term k u) v) s
    within = term_replaced sig (inner ++ outer) (raised_term k t) (raised_term k u) sort (term_lifted sig outer k inner t sort n old) (term_lifted sig outer k inner u sort n new)

    all_within : (ts : Terms) (sorts : List Name) → AreTerms sig (inner ++ outer) ts sorts → AreTerms sig (inner ++ outer) (replaced_terms (raised_term k t) (raised_term k u) ts) sorts
    all_within = terms_replaced sig (inner ++ outer) (raised_term k t) (raised_term k u) sort (term_lifted sig outer k inner t sort n old) (term_lifted sig outer k inner u sort n new)

  more : (k : ℕ) (s : Name) (inner : List Name) → k ≡ length inner → k + 1 ≡ length (s ∷ inner)
  more k s inner n = omega arith

  pub form_replaced : (k : ℕ) (inner : List Name) (f : Form) → k ≡ length inner → IsForm sig (inner ++ outer) f → IsForm sig (inner ++ outer) (replaced_form t u k f)
  form_replaced k inner Form.True n h = tt
  form_replaced k inner Form.False n h = tt
  form_replaced k inner (Form.Atom p ts) n h = (h.0, h.1, all_within k inner n ts h.0 h.2)
  form_replaced k inner (Form.Equal v w) n h = (h.0, within k inner n v h.0 h.1, within k inner n w h.0 h.2)
  form_replaced k inner (Form.Not f) n h = form_replaced k inner f n h
  form_replaced k inner (Form.And f g) n h = (form_replaced k inner f n h.0, form_replaced k inner g n h.1)
  form_replaced k inner (Form.Or f g) n h = (form_replaced k inner f n h.0, form_replaced k inner g n h.1)
  form_replaced k inner (Form.Imp f g) n h = (form_replaced k inner f n h.0, form_replaced k inner g n h.1)
  form_replaced k inner (Form.Iff f g) n h = (form_replaced k inner f n h.0, form_replaced k inner g n h.1)
  form_replaced k inner (Form.All s f) n h = (h.0, form_replaced (k + 1) (s ∷ inner) f (more k s inner n) h.1)
  form_replaced k inner (Form.Ex s f) n h = (h.0, form_replaced (k + 1) (s ∷ inner) f (more k s inner n) h.1)
  form_replaced k inner (Form.After a f) n h = (h.0, behind_typed sig (inner ++ outer) (touches t u k a) f (replaced_form t u k f) h.1 (form_replaced k inner f n h.1))
  form_replaced k inner (Form.Can a f) n h = (h.0, behind_typed sig (inner ++ outer) (touches t u k a) f (replaced_form t u k f) h.1 (form_replaced k inner f n h.1))

-- ---- names

-- the names of the term that is put in
module _ (t u : Term) (names : List Var) (put : Sub (free_term u) names) where
  either_where : (xs : List Var) (b : Bool) (w : Term) → Sub (free_term w) (xs ++ names) → Sub (free_term (if b then u else w)) (xs ++ names)
  either_where xs true w h = λ x i. in_back xs (put x i)
  either_where xs false w h = h

  mutual
    pub term_names : (v : Term) → Sub (free_term (replaced_term t u v)) (free_term v ++ names)
    term_names (Term.Place r) = either_where (free_term (Term.Place r)) (term_eq (Term.Place r) t) (Term.Place r) (λ x i. in_front names i)
    term_names (Term.App f ts) = either_where (free_terms ts) (term_eq (Term.App f ts) t) (Term.App f (replaced_terms t u ts)) (terms_names ts)

    pub terms_names : (ts : Terms) → Sub (free_terms (replaced_terms t u ts)) (free_terms ts ++ names)
    terms_names Terms.none = λ x i. elim i [ ]
    terms_names (Terms.more v ts) = sub_both (free_term (replaced_term t u v)) (free_terms (replaced_terms t u ts)) (free_term v) (free_terms ts) names (term_names v) (terms_names ts)

behind_names : (names : List Var) (b : Bool) (f g : Form) → Sub (free_form g) (free_form f ++ names) → Sub (free_form (if b then f else g)) (free_form f ++ names)
behind_names names true f g h = λ x i. in_front names i
behind_names names false f g h = h

module _ (t u : Term) where
  abbrev names : List Var
  names = free_term u

  put : (k : ℕ) → Sub (free_term (raised_term k u)) names
  put k x i = subst (In x) (free_raised k u) i

  both : (us vs xs ys : List Var) → Sub us (xs ++ names) → Sub vs (ys ++ names) → Sub (us ++ vs) ((xs ++ ys) ++ names)
  both us vs xs ys = sub_both us vs xs ys names

  pub form_names : (k : ℕ) (f : Form) → Sub (free_form (replaced_form t u k f)) (free_form f ++ names)
  form_names k Form.True = λ x i. elim i [ ]
  form_names k Form.False = λ x i. elim i [ ]
  form_names k (Form.Atom p ts) = terms_names (raised_term k t) (raised_term k u) names (put k) ts
  form_names k (Form.Equal v w) =
      let new = replaced_term (raised_term k t) (raised_term k u) in
      both (free_term (new v)) (free_term (new w)) (free_term v) (free_term w)
      (term_names (raised_term k t) (raised_term k u) names (put k) v) (term_names (raised_term k t) (raised_term k u) names (put k) w)
  form_names k (Form.Not f) = form_names k f
  form_names k (Form.And f g) = both (free_form (replaced_form t u k f)) (free_form (replaced_form t u k g)) (free_form f) (free_form g) (form_names k f) (form_names k g)
  form_names k (Form.Or f g) = both (free_form (replaced_form t u k f)) (free_form (replaced_form t u k g)) (free_form f) (free_form g) (form_names k f) (form_names k g)
  form_names k (Form.Imp f g) = both (free_form (replaced_form t u k f)) (free_form (replaced_form t u k g)) (free_form f) (free_form g) (form_names k f) (form_names k g)
  form_names k (Form.Iff f g) = both (free_form (replaced_form t u k f)) (free_form (replaced_form t u k g)) (free_form f) (free_form g) (form_names k f) (form_names k g)
  form_names k (Form.All s f) = form_names (k + 1) f
  form_names k (Form.Ex s f) = form_names (k + 1) f
  form_names k (Form.After a f) =
      both (free_prog a) (free_form (if touches t u k a then f else replaced_form t u k f)) (free_prog a) (free_form f) (λ x i. in_front names i)
      (behind_names names (touches t u k a) f (replaced_form t u k f) (form_names k f))
  form_names k (Form.Can a f) =
      both (free_prog a) (free_form (if touches t u k a then f else replaced_form t u k f)) (free_prog a) (free_form f) (λ x i. in_front names i)
      (behind_names names (touches t u k a) f (replaced_form t u k f) (form_names k f))

  behind_assumed : (b : Bool) (f g : Form) → assumed_form g ≡ assumed_form f → assumed_form (if b then f else g) ≡ assumed_form f
  behind_assumed true f g e = refl
  behind_assumed false f g e = e

  pub same_assumed : (k : ℕ) (f : Form) → assumed_form (replaced_form t u k f) ≡ assumed_form f
  same_assumed k Form.True = refl
  same_assumed k Form.False = refl
  same_assumed k (Form.Atom p ts) = refl
  same_assumed k (Form.Equal v w) = refl
  same_assumed k (Form.Not f) = same_assumed k f
  same_assumed k (Form.And f g) = λ i. same_assumed k f i ++ same_assumed k g i
  same_assumed k (Form.Or f g) = λ i. same_assumed k f i ++ same_assumed k g i
  same_assumed k (Form.Imp f g) = λ i. same_assumed k f i ++ same_assumed k g i
  same_assumed k (Form.Iff f g) = λ i. same_assumed k f i ++ same_assumed k g i
  same_assumed k (Form.All s f) = same_assumed (k + 1) f
  same_assumed k (Form.Ex s f) = same_assumed (k + 1) f
  same_assumed k (Form.After a f) = ap (λ ps. assumed_prog a ++ ps) (behind_assumed (touches t u k a) f (replaced_form t u k f) (same_assumed k f))
  same_assumed k (Form.Can a f) = ap (λ ps. assumed_prog a ++ ps) (behind_assumed (touches t u k a) f (replaced_form t u k f) (same_assumed k f))
