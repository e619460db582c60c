-- What the changes make of a typed variable.
use Rattle.std.proofs.Common.{◌≡◌, ℕ, zero, suc, ◌+◌, ◌-◌, ◌<◌, ◌≤◌, List, [], ◌∷◌, ◌++◌, length, Some, refl, sym, ap, ◌∙◌, subst, inl, inr, arith}
use Rattle.std.specs.List.{slice_get}
use Rattle.std.proofs.lemmas.Bool.{cond-true, cond-false, cases_lt, cases_order, cases_Bool}
use Rattle.kv_trees.specs.Same.{var_eq}
use Rattle.kv_trees.proofs.Same.{var_is}
use Rattle.kv_names.specs.Names.{Name}
use Rattle.kv_trees.specs.Trees.{Term, Terms}
use Rattle.kv_names.specs.declared.symbols.Symbol.{Symbol}
use Rattle.kv_names.specs.declared.symbols.Var.{Var}
use Rattle.kv_trees.specs.declared.trees.Ref.{Ref}
use Rattle.kv_trees.specs.declared.trees.Ref.TheVariants.{Free, Bound}
use Rattle.kv_trees.specs.Variables.{raised_ref}
use Rattle.kv_sig.specs.Typing.{IsVariable, IsTerm, AreTerms}
use Rattle.kv_subst.specs.Opening.{raised_term, raised_terms, opened, closed_var, renamed_var}
use Rattle.kv_subst.proofs.Single.{opened_below, opened_here, opened_above, closed_below, closed_above, numbers}

-- ---- the binders inside and those outside

front : (xs ys : List Name) (i : ℕ) → i < length xs → slice_get (xs ++ ys) i ≡ slice_get xs i
front [] ys i h = absurd (omega arith)
front (x ∷ xs) ys zero h = refl
front (x ∷ xs) ys (suc i) h = front xs ys i (omega arith)

behind : (xs ys : List Name) (i j : ℕ) → i ≡ j + length xs → slice_get (xs ++ ys) i ≡ slice_get ys j
behind [] ys i j e = ap (slice_get ys) (numbers i j (omega arith))
behind (x ∷ xs) ys zero j e = absurd (omega arith)
behind (x ∷ xs) ys (suc i) j e = behind xs ys i j (omega arith)

-- an inner binder is the same whatever is outside
inner_same : (xs ys zs : List Name) (i : ℕ) → i < length xs → slice_get (xs ++ ys) i ≡ slice_get (xs ++ zs) i
inner_same xs ys zs i h = front xs ys i h ∙ sym (front xs zs i h)

-- an outer binder is the same with one more between
outer_same : (xs ys : List Name) (s : Name) (i : ℕ) → length xs ≤ i → slice_get (xs ++ ys) i ≡ slice_get (xs ++ s ∷ ys) (i + 1)
outer_same xs ys s i h = behind xs ys i (i - length xs) (omega arith) ∙ sym (behind xs (s ∷ ys) (i + 1) (suc (i - length xs)) (omega arith))

-- the binder between
between : (xs ys : List Name) (s : Name) (i : ℕ) → i ≡ length xs → slice_get (xs ++ s ∷ ys) i ≡ Some s
between xs ys s i e = behind xs (s ∷ ys) i 0 (omega arith)

module _ (sig : List Symbol) (outer : List Name) where
  -- a term under more binders
  mutual
    pub term_lifted : (k : ℕ) (inner : List Name) (t : Term) (s : Name) → k ≡ length inner → IsTerm sig outer t s → IsTerm sig (inner ++ outer) (raised_term k t) s
    term_lifted k inner (Term.Place (Free x)) s n h = h
    term_lifted k inner (Term.Place (Bound m)) s n h = behind inner outer (m + k) m (omega arith) ∙ h
    term_lifted k inner (Term.App f ts) s n h = (h.0, h.1, terms_lifted k inner ts h.0 n h.2)

    terms_lifted : (k : ℕ) (inner : List Name) (ts : Terms) (sorts : List Name) → k ≡ length inner → AreTerms sig outer ts sorts → AreTerms sig (inner ++ outer) (raised_terms k ts) sorts
    terms_lifted k inner Terms.none [] n h = tt
    terms_lifted k inner Terms.none (s ∷ sorts) n h = absurd h
    terms_lifted k inner (Terms.more t ts) [] n h = absurd h
    terms_lifted k inner (Terms.more t ts) (s ∷ sorts) n h = (term_lifted k inner t s n h.0, terms_lifted k inner ts sorts n h.1)

  pub opened_typed : (sort : Name) (t : Term) → IsTerm sig outer t sort → (k : ℕ) (inner : List Name) (r : Ref) (s : Name) → k ≡ length inner →
      IsVariable sig (inner ++ sort ∷ outer) r s → IsTerm sig (inner ++ outer) (opened t k r) s
  opened_typed sort t v k inner (Free x) s n h = h
  opened_typed sort t v k inner (Bound m) s n h = elim (cases_order m k) [
    | inl e ↦
        let q : Some sort ≡ Some s = sym (between inner outer sort m (omega arith)) ∙ h in
        let same : sort ≡ s = cc in
        subst (λ (u : Term). IsTerm sig (inner ++ outer) u s) (sym (opened_here t k m e))
        (subst (λ (z : Name). IsTerm sig (inner ++ outer) (raised_term k t) z) same (term_lifted k inner t sort n v))
    | inr g ↦ elim g [
      | inl l ↦
          subst (λ (u : Term). IsTerm sig (inner ++ outer) u s) (sym (opened_below t k m l)) (inner_same inner outer (sort ∷ outer) m (omega arith) ∙ h)
      | inr u ↦
          subst (λ (u : Term). IsTerm sig (inner ++ outer) u s) (sym (opened_above t k m u))
          (outer_same inner outer sort (m - 1) (omega arith) ∙ ap (slice_get (inner ++ sort ∷ outer)) (numbers (m - 1 + 1) m (omega arith)) ∙ h)
    ]
  ]

  pub closed_typed : (x : Var) (k : ℕ) (inner : List Name) (r : Ref) (s : Name) → k ≡ length inner →
      IsVariable sig (inner ++ outer) r s → IsVariable sig (inner ++ x.sort ∷ outer) (closed_var x k r) s
  closed_typed x k inner (Free y) s n h = elim (cases_Bool (var_eq y x)) [
    | inl e ↦
        subst (λ (q : Ref). IsVariable sig (inner ++ x.sort ∷ outer) q s) (sym (cond-true (var_eq y x) (Bound k) (Free y) e))
        (between inner outer x.sort k n ∙ ap (λ (v : Var). Some v.sort) (sym (var_is y x e)) ∙ ap Some h.0)
    | inr e ↦ subst (λ (q : Ref). IsVariable sig (inner ++ x.sort ∷ outer) q s) (sym (cond-false (var_eq y x) (Bound k) (Free y) e)) h
  ]
  closed_typed x k inner (Bound m) s n h = elim (cases_lt m k) [
    | inl l ↦
        subst (λ (q : Ref). IsVariable sig (inner ++ x.sort ∷ outer) q s) (sym (closed_below x k m l)) (inner_same inner (x.sort ∷ outer) outer m (omega arith) ∙ h)
    | inr u ↦
        subst (λ (q : Ref). IsVariable sig (inner ++ x.sort ∷ outer) q s) (sym (closed_above x k m u)) (sym (outer_same inner outer x.sort m (omega arith)) ∙ h)
  ]

pub renamed_typed : (sig : List Symbol) (binders : List Name) (x : Var) (to : Name) (r : Ref) (s : Name) → IsVariable sig binders r s → IsVariable sig binders (renamed_var x to r) s
renamed_typed sig binders x to (Bound m) s h = h
renamed_typed sig binders x to (Free y) s h = elim (cases_Bool (var_eq y x)) [
  | inl e ↦
      subst (λ (v : Var). IsVariable sig binders (Free v) s) (sym (cond-true (var_eq y x) (record { name = to; sort = x.sort }) y e))
      (ap (λ (v : Var). v.sort) (sym (var_is y x e)) ∙ h.0, h.1)
  | inr e ↦ subst (λ (v : Var). IsVariable sig binders (Free v) s) (sym (cond-false (var_eq y x) (record { name = to; sort = x.sort }) y e)) h
]
