-- Whether a changed variable is, or has, a given one.
use Rattle.std.proofs.Common.{◌≡◌, ℕ, ◌+◌, ◌-◌, ◌<◌, ◌≤◌, refl, sym, ap, ◌∙◌, subst, inl, inr, arith}
use Rattle.std.specs.Prelude.{Bool, true, false, not, ◌&&◌, ◌||◌, ◌==◌}
use Rattle.std.proofs.lemmas.Bool.{cond-true, cond-false, cases_lt, cases_order, cases_Bool, ne_eqb, eq-eqb, true≢false}
use Rattle.std.proofs.lemmas.Bool.Decides.{same_from_decides, Decides-eqb, Decides-like}
use Rattle.kv_trees.specs.Same.{var_eq, ref_eq}
use Rattle.kv_trees.proofs.Same.{var_is, ref_same}
use Rattle.kv_names.specs.Names.{Name}
use Rattle.kv_trees.specs.Trees.{Term, Terms}
use Rattle.kv_names.specs.declared.symbols.Var.{Var}
use Rattle.kv_trees.specs.declared.trees.Ref.{Ref}
use Rattle.kv_trees.specs.declared.trees.Ref.TheVariants.{Free, Bound}
use Rattle.kv_trees.specs.Variables.{raised_ref, term_has, terms_have}
use Rattle.kv_subst.specs.Changing.{variable_or}
use Rattle.kv_subst.specs.Opening.{raised_term, raised_terms, opened, closed_var, renamed_var}
use Rattle.kv_subst.specs.Fitting.{IsPlace}
use Rattle.kv_subst.specs.Laws.{as_named}
use Rattle.kv_subst.proofs.Single.{opened_below, opened_here, opened_above, closed_below, closed_above}

-- ---- tests

pub or_false : (b : Bool) → (b || false) ≡ b
or_false true = refl
or_false false = refl

pub and_true : (b : Bool) → (b && true) ≡ b
and_true true = refl
and_true false = refl

pub and_false : (b : Bool) → (b && false) ≡ false
and_false true = refl
and_false false = refl

same_tests : (a b c d : ℕ) → (a ≡ b → c ≡ d) → (c ≡ d → a ≡ b) → (a == b) ≡ (c == d)
same_tests a b c d there back = same_from_decides (a == b) (c == d) (Decides-eqb a b) (Decides-like (c == d) back there (Decides-eqb c d))

-- a test that is true in parts is true of the parts joined
pub or_joined : (a b c d : Bool) → ((a || b) || (c || d)) ≡ ((a || c) || (b || d))
or_joined true b c d = refl
or_joined false true true d = refl
or_joined false true false d = refl
or_joined false false c d = refl

pub and_joined : (a b c : Bool) → ((a || b) && c) ≡ ((a && c) || (b && c))
and_joined false b c = refl
and_joined true b true = refl
and_joined true true false = refl
and_joined true false false = refl

-- ---- raising

ref_raised : (k : ℕ) (q r : Ref) → ref_eq (raised_ref k q) (raised_ref k r) ≡ ref_eq q r
ref_raised k (Free x) (Free y) = refl
ref_raised k (Free x) (Bound j) = refl
ref_raised k (Bound i) (Free y) = refl
ref_raised k (Bound i) (Bound j) = same_tests (i + k) (j + k) i j (λ e. omega arith) (λ e. omega arith)

mutual
  term_raised : (k : ℕ) (r : Ref) (t : Term) → term_has (raised_ref k r) (raised_term k t) ≡ term_has r t
  term_raised k r (Term.Place q) = ref_raised k q r
  term_raised k r (Term.App f ts) = terms_raised k r ts

  terms_raised : (k : ℕ) (r : Ref) (ts : Terms) → terms_have (raised_ref k r) (raised_terms k ts) ≡ terms_have r ts
  terms_raised k r Terms.none = refl
  terms_raised k r (Terms.more t ts) = λ i. term_raised k r t i || terms_raised k r ts i

-- ---- opening

-- a number that isn't the bound variable's
not_bound : (k m : ℕ) → (m ≡ k → ⊥) → ref_eq (Bound m) (raised_ref k (Bound 0)) ≡ false
not_bound k m h = ne_eqb m (0 + k) (λ e. h (omega arith))

-- the same of an outer variable, which is called one more in the body
not_outer : (k : ℕ) (r : Ref) (m : ℕ) → m ≤ k → ref_eq (Bound m) (raised_ref k (raised_ref 1 r)) ≡ false
not_outer k (Free y) m h = refl
not_outer k (Bound j) m h = ne_eqb m (j + 1 + k) (λ e. omega arith)

below_outer : (k : ℕ) (r : Ref) (m : ℕ) → m < k → ref_eq (Bound m) (raised_ref k r) ≡ false
below_outer k (Free y) m h = refl
below_outer k (Bound j) m h = ne_eqb m (j + k) (λ e. omega arith)

above_outer : (k : ℕ) (r : Ref) (m : ℕ) → k < m → ref_eq (Bound (m - 1)) (raised_ref k r) ≡ ref_eq (Bound m) (raised_ref k (raised_ref 1 r))
above_outer k (Free y) m h = refl
above_outer k (Bound j) m h = same_tests (m - 1) (j + k) m (j + 1 + k) (λ e. omega arith) (λ e. omega arith)

-- neither of two, where the second isn't
alone : (a b d : Bool) → b ≡ false → a ≡ (a || (b && d))
alone a b d e = sym (ap (λ z. a || (z && d)) e ∙ or_false a)

second : (a b d : Bool) → a ≡ false → b ≡ true → d ≡ (a || (b && d))
second a b d e g = sym (ap (λ z. z || (b && d)) e ∙ ap (λ z. z && d) g)

pub place_opened : (t : Term) (r : Ref) (k : ℕ) (q : Ref) →
    term_has (raised_ref k r) (opened t k q) ≡ (ref_eq q (raised_ref k (raised_ref 1 r)) || (ref_eq q (raised_ref k (Bound 0)) && term_has r t))
place_opened t r k (Free x) = free r where
  free : (r : Ref) → ref_eq (Free x) (raised_ref k r) ≡ (ref_eq (Free x) (raised_ref k (raised_ref 1 r)) || false)
  free (Free y) = sym (or_false (var_eq x y))
  free (Bound j) = refl
place_opened t r k (Bound m) = elim (cases_order m k) [
  | inl e ↦
      ap (term_has (raised_ref k r)) (opened_here t k m e) ∙ term_raised k r t
      ∙ second (ref_eq (Bound m) (raised_ref k (raised_ref 1 r))) (ref_eq (Bound m) (raised_ref k (Bound 0))) (term_has r t) (not_outer k r m (omega arith)) (eq-eqb m (0 + k) (omega arith))
  | inr h ↦ elim h [
    | inl l ↦
        ap (term_has (raised_ref k r)) (opened_below t k m l) ∙ below_outer k r m l ∙ sym (not_outer k r m (omega arith))
        ∙ alone (ref_eq (Bound m) (raised_ref k (raised_ref 1 r))) (ref_eq (Bound m) (raised_ref k (Bound 0))) (term_has r t) (not_bound k m (λ e. omega arith))
    | inr g ↦
        ap (term_has (raised_ref k r)) (opened_above t k m g) ∙ above_outer k r m g
        ∙ alone (ref_eq (Bound m) (raised_ref k (raised_ref 1 r))) (ref_eq (Bound m) (raised_ref k (Bound 0))) (term_has r t) (not_bound k m (λ e. omega arith))
  ]
]

-- a reference that becomes a variable is found as a term is
pub ref_as_term : (q s : Ref) (t : Term) → IsPlace t → ref_eq (variable_or q t) s ≡ term_has s t
ref_as_term q s (Term.Place p) v = refl
ref_as_term q s (Term.App f ts) v = absurd v

-- ---- renaming

var_same : (x : Var) → var_eq x x ≡ true
var_same x = ref_same (Free x)

var_turned : (x y : Var) → var_eq x y ≡ true → var_eq y x ≡ true
var_turned x y e = subst (λ (z : Var). var_eq y z ≡ true) (sym (var_is x y e)) (var_same y)

var_symmetric : (x y : Var) → var_eq x y ≡ var_eq y x
var_symmetric x y = elim (cases_Bool (var_eq x y)) [
  | inl e ↦ e ∙ sym (var_turned x y e)
  | inr e ↦ elim (cases_Bool (var_eq y x)) [
    | inl g ↦ absurd (true≢false (sym (var_turned y x g) ∙ e))
    | inr g ↦ e ∙ sym g
  ]
]

-- the old variable isn't found by itself
not_both : (x y z : Var) → var_eq y x ≡ true → (var_eq y z && not (var_eq z x)) ≡ false
not_both x y z e = elim (cases_Bool (var_eq y z)) [
  | inl g ↦
      ap (λ b. b && not (var_eq z x)) g
      ∙ ap not (subst (λ (w : Var). var_eq w x ≡ true) (var_is y z g) e)
  | inr g ↦ ap (λ b. b && not (var_eq z x)) g
]

-- another one stays
others : (x y z : Var) → var_eq y x ≡ false → (var_eq y z && not (var_eq z x)) ≡ var_eq y z
others x y z e = elim (cases_Bool (var_eq y z)) [
  | inl g ↦ ap (λ b. b && not (var_eq z x)) g ∙ ap not (subst (λ (w : Var). var_eq w x ≡ false) (var_is y z g) e) ∙ sym g
  | inr g ↦ ap (λ b. b && not (var_eq z x)) g ∙ sym g
]

abbrev by_name : Var → Name → Var
by_name x to = record { name = to; sort = x.sort }

pub place_renamed : (x : Var) (to : Name) (r : Ref) (k : ℕ) (q : Ref) →
    ref_eq (renamed_var x to q) (raised_ref k r) ≡ ((ref_eq q (raised_ref k r) && not (ref_eq r (Free x))) || (ref_eq q (raised_ref k (Free x)) && ref_eq r (as_named x to)))
place_renamed x to (Free z) k (Free y) = elim (cases_Bool (var_eq y x)) [
  | inl e ↦
      ap (λ v. var_eq v z) (cond-true (var_eq y x) (by_name x to) y e) ∙ var_symmetric (by_name x to) z
      ∙ sym (ap (λ b. b || (var_eq y x && var_eq z (by_name x to))) (not_both x y z e) ∙ ap (λ b. b && var_eq z (by_name x to)) e)
  | inr e ↦
      ap (λ v. var_eq v z) (cond-false (var_eq y x) (by_name x to) y e)
      ∙ sym (ap (λ b. (var_eq y z && not (var_eq z x)) || (b && var_eq z (by_name x to))) e ∙ or_false (var_eq y z && not (var_eq z x)) ∙ others x y z e)
]
place_renamed x to (Bound j) k (Free y) = sym (and_false (var_eq y x))
place_renamed x to (Free z) k (Bound m) = refl
place_renamed x to (Bound j) k (Bound m) = sym (or_false ((m == j + k) && true) ∙ and_true (m == j + k))

-- ---- closing

pub place_closed : (x : Var) (k : ℕ) (q : Ref) → ref_eq (closed_var x k q) (Free x) ≡ false
place_closed x k (Free y) = elim (cases_Bool (var_eq y x)) [
  | inl e ↦ ap (λ r. ref_eq r (Free x)) (cond-true (var_eq y x) (Bound k) (Free y) e)
  | inr e ↦ ap (λ r. ref_eq r (Free x)) (cond-false (var_eq y x) (Bound k) (Free y) e) ∙ e
]
place_closed x k (Bound m) = elim (cases_lt m k) [
  | inl h ↦ ap (λ r. ref_eq r (Free x)) (closed_below x k m h)
  | inr h ↦ ap (λ r. ref_eq r (Free x)) (closed_above x k m h)
]
