-- What the changes make of a single variable.
use Rattle.std.proofs.Common.{◌≡◌, ℕ, ◌+◌, ◌-◌, ◌<◌, ◌≤◌, refl, sym, ap, ◌∙◌, subst, inl, inr, arith}
use Rattle.std.specs.Prelude.{false, ◌==◌, nat_lt, if◌then◌else◌}
use Rattle.std.proofs.lemmas.Bool.{cond-true, cond-false, lt-ltb, le-ltb, eq-eqb, ne_eqb, eqb-false, cases_lt, cases_order, cases_Bool}
use Rattle.kv_trees.specs.Same.{var_eq, ref_eq}
use Rattle.kv_trees.proofs.Same.{var_is}
use Rattle.kv_names.specs.Names.{Name}
use Rattle.kv_trees.specs.Trees.{Term, Terms}
use Rattle.kv_names.specs.declared.symbols.Var.{Var}
use Rattle.kv_trees.specs.declared.trees.Ref.{Ref}
use Rattle.kv_trees.specs.declared.trees.Ref.TheVariants.{Free, Bound}
use Rattle.kv_trees.specs.Variables.{raised_ref}
use Rattle.kv_subst.specs.Changing.{changed_term, changed_terms, changed_ref, variable_or}
use Rattle.kv_subst.specs.Opening.{raised_var, raised, raised_term, opened, closed_var, renamed}
use Rattle.kv_subst.specs.Fitting.{IsPlace}

-- ---- the changes by cases on the number

pub raised_below : (n k m : ℕ) → m < k → raised_var n k (Bound m) ≡ Bound m
raised_below n k m h = cond-true (nat_lt m k) (Bound m) (Bound (m + n)) (lt-ltb m k h)

pub raised_above : (n k m : ℕ) → k ≤ m → raised_var n k (Bound m) ≡ Bound (m + n)
raised_above n k m h = cond-false (nat_lt m k) (Bound m) (Bound (m + n)) (le-ltb m k h)

pub closed_below : (x : Var) (k m : ℕ) → m < k → closed_var x k (Bound m) ≡ Bound m
closed_below x k m h = cond-true (nat_lt m k) (Bound m) (Bound (m + 1)) (lt-ltb m k h)

pub closed_above : (x : Var) (k m : ℕ) → k ≤ m → closed_var x k (Bound m) ≡ Bound (m + 1)
closed_above x k m h = cond-false (nat_lt m k) (Bound m) (Bound (m + 1)) (le-ltb m k h)

pub opened_below : (t : Term) (k m : ℕ) → m < k → opened t k (Bound m) ≡ Term.Place (Bound m)
opened_below t k m h = cond-true (nat_lt m k) (Term.Place (Bound m)) (if m == k then raised_term k t else Term.Place (Bound (m - 1))) (lt-ltb m k h)

pub opened_here : (t : Term) (k m : ℕ) → m ≡ k → opened t k (Bound m) ≡ raised_term k t
opened_here t k m e =
    cond-false (nat_lt m k) (Term.Place (Bound m)) (if m == k then raised_term k t else Term.Place (Bound (m - 1))) (le-ltb m k (omega arith))
    ∙ cond-true (m == k) (raised_term k t) (Term.Place (Bound (m - 1))) (eq-eqb m k e)

pub opened_above : (t : Term) (k m : ℕ) → k < m → opened t k (Bound m) ≡ Term.Place (Bound (m - 1))
opened_above t k m h =
    cond-false (nat_lt m k) (Term.Place (Bound m)) (if m == k then raised_term k t else Term.Place (Bound (m - 1))) (le-ltb m k (omega arith))
    ∙ cond-false (m == k) (raised_term k t) (Term.Place (Bound (m - 1))) (ne_eqb m k (λ e. omega arith))

-- ---- fitting

pub variable_fits : (r : Ref) (k : ℕ) (q : Ref) → IsPlace (opened (Term.Place r) k q)
variable_fits r k (Free x) = tt
variable_fits r k (Bound m) = elim (cases_order m k) [
  | inl e ↦ subst IsPlace (sym (opened_here (Term.Place r) k m e)) tt
  | inr h ↦ elim h [
    | inl l ↦ subst IsPlace (sym (opened_below (Term.Place r) k m l)) tt
    | inr g ↦ subst IsPlace (sym (opened_above (Term.Place r) k m g)) tt
  ]
]

pub not_here_fits : (t : Term) (k : ℕ) (q : Ref) → ref_eq q (raised_ref k (Bound 0)) ≡ false → IsPlace (opened t k q)
not_here_fits t k (Free x) e = tt
not_here_fits t k (Bound m) e = elim (cases_order m k) [
  | inl h ↦ absurd (eqb-false m (0 + k) e (omega arith))
  | inr h ↦ elim h [
    | inl l ↦ subst IsPlace (sym (opened_below t k m l)) tt
    | inr g ↦ subst IsPlace (sym (opened_above t k m g)) tt
  ]
]

-- ---- terms that are raised

pub moved : (a b : ℕ) → a ≡ b → Term.Place (Bound a) ≡ Term.Place (Bound b)
moved a b e = ap (λ i. Term.Place (Bound i)) e

pub numbers : (a b : ℕ) → a ≡ b → a ≡ b
numbers a b e = e

raised_by : (t : Term) (a b : ℕ) → a ≡ b → raised_term a t ≡ raised_term b t
raised_by t a b e = ap (λ i. raised_term i t) e

module _ (c d e : Ref → Term) (same : (r : Ref) → changed_term d (c r) ≡ e r) where
  mutual
    pub term_joined : (t : Term) → changed_term d (changed_term c t) ≡ changed_term e t
    term_joined (Term.Place r) = same r
    term_joined (Term.App f ts) = λ i. Term.App f (terms_joined ts i)

    terms_joined : (ts : Terms) → changed_terms d (changed_terms c ts) ≡ changed_terms e ts
    terms_joined Terms.none = refl
    terms_joined (Terms.more t ts) = λ i. Terms.more (term_joined t i) (terms_joined ts i)

abbrev pub lifted : ℕ → Ref → Term
lifted n r = Term.Place (raised_ref n r)

pub raised_twice : (n m : ℕ) (t : Term) → raised_term m (raised_term n t) ≡ raised_term (n + m) t
raised_twice n m = term_joined (lifted n) (lifted m) (lifted (n + m)) at where
  at : (r : Ref) → changed_term (lifted m) (lifted n r) ≡ lifted (n + m) r
  at (Free x) = refl
  at (Bound j) = moved (j + n + m) (j + (n + m)) (omega arith)

-- what is raised by k has no number below k
lift : (c : ℕ → Ref → Term) (e : Ref → Term) (k : ℕ) → ((r : Ref) → c k (raised_ref k r) ≡ raised_term k (e r)) → (t : Term) →
    changed_term (c k) (raised_term k t) ≡ raised_term k (changed_term e t)
lift c e k h t =
    term_joined (lifted k) (c k) (λ r. raised_term k (e r)) (λ r. h r) t
    ∙ sym (term_joined e (lifted k) (λ r. raised_term k (e r)) (λ r. refl) t)

pub opened_lifted : (u : Term) (k : ℕ) (r : Ref) → opened u k (raised_ref k r) ≡ raised_term k (opened u 0 r)
opened_lifted u k (Free x) = refl
opened_lifted u k (Bound j) = elim (cases_lt 0 j) [
  | inl h ↦ opened_above u k (j + k) (omega arith) ∙ moved (j + k - 1) (j - 1 + k) (omega arith) ∙ sym (ap (raised_term k) (opened_above u 0 j h))
  | inr h ↦ opened_here u k (j + k) (omega arith) ∙ raised_by u k (0 + k) (omega arith) ∙ sym (raised_twice 0 k u) ∙ sym (ap (raised_term k) (opened_here u 0 j (omega arith)))
]

-- opening what is raised by k, at k
pub opened_raised_term : (u t : Term) (k : ℕ) → changed_term (opened u k) (raised_term k t) ≡ raised_term k (changed_term (opened u 0) t)
opened_raised_term u t k = lift (opened u) (opened u 0) k (opened_lifted u k) t

pub opened_dropped : (t : Term) (k : ℕ) (r : Ref) → opened t k (raised_ref (k + 1) r) ≡ Term.Place (raised_ref k r)
opened_dropped t k (Free x) = refl
opened_dropped t k (Bound j) = opened_above t k (j + (k + 1)) (omega arith) ∙ moved (j + (k + 1) - 1) (j + k) (omega arith)

-- opening what is raised by one more
pub dropped_term : (t u : Term) (k : ℕ) → changed_term (opened t k) (raised_term (k + 1) u) ≡ raised_term k u
dropped_term t u k = term_joined (lifted (k + 1)) (opened t k) (lifted k) (opened_dropped t k) u

pub raised_lifted : (n k : ℕ) (r : Ref) → raised n k (raised_ref k r) ≡ raised_term k (lifted n r)
raised_lifted n k (Free x) = refl
raised_lifted n k (Bound j) = ap Term.Place (raised_above n k (j + k) (omega arith)) ∙ moved (j + k + n) (j + n + k) (omega arith)

pub raised_raised_term : (n k : ℕ) (t : Term) → changed_term (raised n k) (raised_term k t) ≡ raised_term k (raised_term n t)
raised_raised_term n k t = lift (raised n) (lifted n) k (raised_lifted n k) t

pub renamed_raised_term : (x : Var) (to : Name) (k : ℕ) (t : Term) → changed_term (renamed x to k) (raised_term k t) ≡ raised_term k (changed_term (renamed x to 0) t)
renamed_raised_term x to k t = lift (renamed x to) (renamed x to 0) k at t where
  at : (r : Ref) → renamed x to k (raised_ref k r) ≡ raised_term k (renamed x to 0 r)
  at (Free y) = refl
  at (Bound j) = refl

-- ---- two changes of one variable

pub ref_to : (c : Ref → Term) (r q : Ref) → c r ≡ Term.Place q → changed_ref c r ≡ q
ref_to c r q e = ap (variable_or r) e

pub raising_by_none : (k : ℕ) (r : Ref) → raised_var 0 k r ≡ r
raising_by_none k (Free x) = refl
raising_by_none k (Bound m) = elim (cases_lt m k) [
  | inl h ↦ raised_below 0 k m h
  | inr h ↦ raised_above 0 k m h ∙ ap Bound (numbers (m + 0) m (omega arith))
]

pub raising_twice : (n m k : ℕ) (r : Ref) → raised_var m k (raised_var n k r) ≡ raised_var (n + m) k r
raising_twice n m k (Free x) = refl
raising_twice n m k (Bound j) = elim (cases_lt j k) [
  | inl h ↦ ap (raised_var m k) (raised_below n k j h) ∙ raised_below m k j h ∙ sym (raised_below (n + m) k j h)
  | inr h ↦
      ap (raised_var m k) (raised_above n k j h) ∙ raised_above m k (j + n) (omega arith)
      ∙ ap Bound (numbers (j + n + m) (j + (n + m)) (omega arith)) ∙ sym (raised_above (n + m) k j h)
]

pub opening_raised : (t : Term) (n k : ℕ) (r : Ref) → opened t k (raised_var (n + 1) k r) ≡ Term.Place (raised_var n k r)
opening_raised t n k (Free x) = refl
opening_raised t n k (Bound m) = elim (cases_lt m k) [
  | inl h ↦ ap (opened t k) (raised_below (n + 1) k m h) ∙ opened_below t k m h ∙ ap Term.Place (sym (raised_below n k m h))
  | inr h ↦
      ap (opened t k) (raised_above (n + 1) k m h) ∙ opened_above t k (m + (n + 1)) (omega arith)
      ∙ moved (m + (n + 1) - 1) (m + n) (omega arith) ∙ ap Term.Place (sym (raised_above n k m h))
]

pub opening_closed : (x : Var) (k : ℕ) (r : Ref) → opened (Term.Place (Free x)) k (closed_var x k r) ≡ Term.Place r
opening_closed x k (Free y) = elim (cases_Bool (var_eq y x)) [
  | inl h ↦
      ap (opened (Term.Place (Free x)) k) (cond-true (var_eq y x) (Bound k) (Free y) h) ∙ opened_here (Term.Place (Free x)) k k refl
      ∙ ap (λ z. Term.Place (Free z)) (sym (var_is y x h))
  | inr h ↦ ap (opened (Term.Place (Free x)) k) (cond-false (var_eq y x) (Bound k) (Free y) h)
]
opening_closed x k (Bound m) = elim (cases_lt m k) [
  | inl h ↦ ap (opened (Term.Place (Free x)) k) (closed_below x k m h) ∙ opened_below (Term.Place (Free x)) k m h
  | inr h ↦
      ap (opened (Term.Place (Free x)) k) (closed_above x k m h) ∙ opened_above (Term.Place (Free x)) k (m + 1) (omega arith)
      ∙ moved (m + 1 - 1) m (omega arith)
]
