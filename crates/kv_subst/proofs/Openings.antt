-- An opening and another change of one variable, in either order.
use Rattle.std.proofs.Common.{◌≡◌, ℕ, ◌+◌, ◌-◌, ◌<◌, refl, sym, ap, ◌∙◌, subst, inl, inr, arith}
use Rattle.std.proofs.lemmas.Bool.{cases_lt, cases_order}
use Rattle.kv_names.specs.Names.{Name}
use Rattle.kv_trees.specs.Trees.{Term}
use Rattle.kv_names.specs.declared.symbols.Var.{Var}
use Rattle.kv_trees.specs.declared.trees.Ref.{Ref}
use Rattle.kv_trees.specs.declared.trees.Ref.TheVariants.{Free, Bound}
use Rattle.kv_trees.specs.Variables.{raised_ref}
use Rattle.kv_subst.specs.Changing.{changed_term, changed_ref, variable_or}
use Rattle.kv_subst.specs.Opening.{raised_var, raised, raised_term, opened, renamed_var, renamed}
use Rattle.kv_subst.specs.Fitting.{IsPlace}
use Rattle.kv_subst.proofs.Inside.{inside}
use Rattle.kv_subst.proofs.Single.{raised_below, raised_above, opened_below, opened_here, opened_above, opened_lifted, opened_raised_term, opened_dropped, dropped_term, raised_raised_term, renamed_raised_term, moved, numbers, ref_to}

-- ---- two openings

module _ (t u : Term) (k : ℕ) where
  abbrev outer : Term
  outer = changed_term (opened u 0) t

  pub opening_twice : (r : Ref) → changed_term (opened u k) (opened t k r) ≡ changed_term (opened outer k) (inside (opened u) k r)
  opening_twice (Free x) = refl
  opening_twice (Bound m) = elim (cases_order m k) [
    | inl e ↦
        ap (changed_term (opened u k)) (opened_here t k m e) ∙ opened_raised_term u t k
        ∙ sym (ap (changed_term (opened outer k)) (opened_below u (k + 1) m (omega arith)) ∙ opened_here outer k m e)
    | inr h ↦ elim h [
      | inl l ↦
          ap (changed_term (opened u k)) (opened_below t k m l) ∙ opened_below u k m l
          ∙ sym (ap (changed_term (opened outer k)) (opened_below u (k + 1) m (omega arith)) ∙ opened_below outer k m l)
      | inr g ↦ ap (changed_term (opened u k)) (opened_above t k m g) ∙ above m g
    ]
  ] where
    above : (m : ℕ) → k < m → opened u k (Bound (m - 1)) ≡ changed_term (opened outer k) (inside (opened u) k (Bound m))
    above m g = elim (cases_order m (k + 1)) [
      | inl e ↦ opened_here u k (m - 1) (omega arith) ∙ sym (ap (changed_term (opened outer k)) (opened_here u (k + 1) m e) ∙ dropped_term outer u k)
      | inr h ↦ elim h [
        | inl l ↦ absurd (omega arith)
        | inr a ↦
            opened_above u k (m - 1) (omega arith)
            ∙ sym (ap (changed_term (opened outer k)) (opened_above u (k + 1) m a) ∙ opened_above outer k (m - 1) (omega arith))
      ]
    ]

-- a variable in the place of either of two
either : (a b q : Ref) (t : Term) → t ≡ Term.Place q → variable_or a t ≡ variable_or b t
either a b q t e = ap (variable_or a) e ∙ sym (ap (variable_or b) e)

module _ (u : Term) (k : ℕ) where
  -- a reference for the inner binder
  placed_twice : (t : Term) (m : ℕ) → m ≡ k → IsPlace (raised_term k t) →
      changed_ref (opened u k) (changed_ref (opened t k) (Bound m)) ≡ changed_ref (opened (changed_term (opened u 0) t) k) (changed_ref (inside (opened u) k) (Bound m))
  placed_twice (Term.App f ts) m e v = absurd v
  placed_twice (Term.Place p) m e v =
      ap (changed_ref (opened u k)) (ref_to (opened (Term.Place p) k) (Bound m) (raised_ref k p) (opened_here (Term.Place p) k m e))
      ∙ ap (variable_or (raised_ref k p)) (opened_lifted u k p) ∙ same p
      ∙ sym (ap (variable_or (Bound m)) (opened_here (opened u 0 p) k m e))
      ∙ sym (ap (changed_ref (opened (opened u 0 p) k)) (ref_to (inside (opened u) k) (Bound m) (Bound m) (opened_below u (k + 1) m (omega arith)))) where
        same : (p : Ref) → variable_or (raised_ref k p) (raised_term k (opened u 0 p)) ≡ variable_or (Bound m) (raised_term k (opened u 0 p))
        same (Free x) = refl
        same (Bound j) = elim (cases_lt 0 j) [
          | inl h ↦ either (raised_ref k (Bound j)) (Bound m) (raised_ref k (Bound (j - 1))) (raised_term k (opened u 0 (Bound j))) (ap (raised_term k) (opened_above u 0 j h))
          | inr h ↦ ap (λ r. variable_or r (raised_term k (opened u 0 (Bound j)))) (ap Bound (numbers (j + k) m (omega arith)))
        ]

-- a reference for the outer binder
placed_outer : (t u : Term) (k m : ℕ) → m ≡ k + 1 →
    changed_ref (opened u k) (Bound (m - 1)) ≡ changed_ref (opened t k) (changed_ref (inside (opened u) k) (Bound m))
placed_outer t (Term.Place p) k m e =
    ref_to (opened (Term.Place p) k) (Bound (m - 1)) (raised_ref k p) (opened_here (Term.Place p) k (m - 1) (omega arith))
    ∙ sym (ref_to (opened t k) (raised_ref (k + 1) p) (raised_ref k p) (opened_dropped t k p))
    ∙ sym (ap (changed_ref (opened t k)) (ref_to (inside (opened (Term.Place p)) k) (Bound m) (raised_ref (k + 1) p) (opened_here (Term.Place p) (k + 1) m e)))
placed_outer t (Term.App f ts) k m e =
    ap (variable_or (Bound (m - 1))) (opened_here (Term.App f ts) k (m - 1) (omega arith))
    ∙ sym (ref_to (opened t k) (Bound m) (Bound (m - 1)) (opened_above t k m (omega arith)))
    ∙ sym (ap (changed_ref (opened t k)) (ap (variable_or (Bound m)) (opened_here (Term.App f ts) (k + 1) m e)))

pub opening_refs_twice : (t u : Term) (k : ℕ) (r : Ref) → IsPlace (opened t k r) →
    changed_ref (opened u k) (changed_ref (opened t k) r) ≡ changed_ref (opened (changed_term (opened u 0) t) k) (changed_ref (inside (opened u) k) r)
opening_refs_twice t u k (Free x) v = refl
opening_refs_twice t u k (Bound m) v = elim (cases_order m k) [
  | inl e ↦ placed_twice u k t m e (subst IsPlace (opened_here t k m e) v)
  | inr h ↦ elim h [
    | inl l ↦
        ap (changed_ref (opened u k)) (ref_to (opened t k) (Bound m) (Bound m) (opened_below t k m l))
        ∙ ref_to (opened u k) (Bound m) (Bound m) (opened_below u k m l)
        ∙ sym (ref_to (opened outer k) (Bound m) (Bound m) (opened_below outer k m l))
        ∙ sym (ap (changed_ref (opened outer k)) (ref_to (inside (opened u) k) (Bound m) (Bound m) (opened_below u (k + 1) m (omega arith))))
    | inr g ↦ ap (changed_ref (opened u k)) (ref_to (opened t k) (Bound m) (Bound (m - 1)) (opened_above t k m g)) ∙ above m g
  ]
] where
  outer : Term
  outer = changed_term (opened u 0) t

  above : (m : ℕ) → k < m → changed_ref (opened u k) (Bound (m - 1)) ≡ changed_ref (opened (changed_term (opened u 0) t) k) (changed_ref (inside (opened u) k) (Bound m))
  above m g = elim (cases_order m (k + 1)) [
    | inl e ↦ placed_outer (changed_term (opened u 0) t) u k m e
    | inr h ↦ elim h [
      | inl l ↦ absurd (omega arith)
      | inr a ↦
          ref_to (opened u k) (Bound (m - 1)) (Bound (m - 1 - 1)) (opened_above u k (m - 1) (omega arith))
          ∙ sym (ref_to (opened (changed_term (opened u 0) t) k) (Bound (m - 1)) (Bound (m - 1 - 1)) (opened_above (changed_term (opened u 0) t) k (m - 1) (omega arith)))
          ∙ sym (ap (changed_ref (opened (changed_term (opened u 0) t) k)) (ref_to (inside (opened u) k) (Bound m) (Bound (m - 1)) (opened_above u (k + 1) m a)))
    ]
  ]

-- ---- an opening and raising

pub raising_opened : (t : Term) (n k : ℕ) (r : Ref) → changed_term (raised n k) (opened t k r) ≡ opened (raised_term n t) k (raised_var n (k + 1) r)
raising_opened t n k (Free x) = refl
raising_opened t n k (Bound m) = elim (cases_order m k) [
  | inl e ↦
      ap (changed_term (raised n k)) (opened_here t k m e) ∙ raised_raised_term n k t
      ∙ sym (ap (opened (raised_term n t) k) (raised_below n (k + 1) m (omega arith)) ∙ opened_here (raised_term n t) k m e)
  | inr h ↦ elim h [
    | inl l ↦
        ap (changed_term (raised n k)) (opened_below t k m l) ∙ ap Term.Place (raised_below n k m l)
        ∙ sym (ap (opened (raised_term n t) k) (raised_below n (k + 1) m (omega arith)) ∙ opened_below (raised_term n t) k m l)
    | inr g ↦
        ap (changed_term (raised n k)) (opened_above t k m g) ∙ ap Term.Place (raised_above n k (m - 1) (omega arith)) ∙ moved (m - 1 + n) (m + n - 1) (omega arith)
        ∙ sym (ap (opened (raised_term n t) k) (raised_above n (k + 1) m (omega arith)) ∙ opened_above (raised_term n t) k (m + n) (omega arith))
  ]
]

-- what a change makes of a reference, by what the opening makes of it
ref_by : (t : Term) (k : ℕ) (r : Ref) (ρ : Ref → Ref) (u : Term) (q : Ref) → IsPlace (opened t k r) →
    changed_term (λ p. Term.Place (ρ p)) (opened t k r) ≡ u → ρ (changed_ref (opened t k) r) ≡ variable_or q u
ref_by t k r ρ u q v e = go (opened t k r) v e where
  go : (w : Term) → IsPlace w → changed_term (λ p. Term.Place (ρ p)) w ≡ u → ρ (variable_or r w) ≡ variable_or q u
  go (Term.Place p) v e = ap (variable_or q) e
  go (Term.App f ts) v e = absurd v

pub raising_refs_opened : (t : Term) (n k : ℕ) (r : Ref) → IsPlace (opened t k r) →
    raised_var n k (changed_ref (opened t k) r) ≡ changed_ref (opened (raised_term n t) k) (raised_var n (k + 1) r)
raising_refs_opened t n k r v = ref_by t k r (raised_var n k) (opened (raised_term n t) k (raised_var n (k + 1) r)) (raised_var n (k + 1) r) v (raising_opened t n k r)

-- ---- an opening and renaming

pub renaming_opened : (t : Term) (x : Var) (to : Name) (k : ℕ) (r : Ref) →
    changed_term (renamed x to k) (opened t k r) ≡ opened (changed_term (renamed x to 0) t) k (renamed_var x to r)
renaming_opened t x to k (Free y) = refl
renaming_opened t x to k (Bound m) = elim (cases_order m k) [
  | inl e ↦
      ap (changed_term (renamed x to k)) (opened_here t k m e) ∙ renamed_raised_term x to k t
      ∙ sym (opened_here (changed_term (renamed x to 0) t) k m e)
  | inr h ↦ elim h [
    | inl l ↦ ap (changed_term (renamed x to k)) (opened_below t k m l) ∙ sym (opened_below (changed_term (renamed x to 0) t) k m l)
    | inr g ↦ ap (changed_term (renamed x to k)) (opened_above t k m g) ∙ sym (opened_above (changed_term (renamed x to 0) t) k m g)
  ]
]

pub renaming_refs_opened : (t : Term) (x : Var) (to : Name) (k : ℕ) (r : Ref) →
    renamed_var x to (changed_ref (opened t k) r) ≡ changed_ref (opened (changed_term (renamed x to 0) t) k) (renamed_var x to r)
renaming_refs_opened t x to k (Free y) = refl
renaming_refs_opened t x to k (Bound m) = elim (cases_order m k) [
  | inl e ↦
      ap (λ w. renamed_var x to (variable_or (Bound m) w)) (opened_here t k m e) ∙ here t
      ∙ sym (ap (variable_or (Bound m)) (opened_here (changed_term (renamed x to 0) t) k m e))
  | inr h ↦ elim h [
    | inl l ↦
        ap (λ w. renamed_var x to (variable_or (Bound m) w)) (opened_below t k m l)
        ∙ sym (ap (variable_or (Bound m)) (opened_below (changed_term (renamed x to 0) t) k m l))
    | inr g ↦
        ap (λ w. renamed_var x to (variable_or (Bound m) w)) (opened_above t k m g)
        ∙ sym (ap (variable_or (Bound m)) (opened_above (changed_term (renamed x to 0) t) k m g))
  ]
] where
  here : (t : Term) → renamed_var x to (variable_or (Bound m) (raised_term k t)) ≡ variable_or (Bound m) (raised_term k (changed_term (renamed x to 0) t))
  here (Term.Place (Free y)) = refl
  here (Term.Place (Bound j)) = refl
  here (Term.App f ts) = refl
