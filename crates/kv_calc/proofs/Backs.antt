-- Changes of references that can be taken back.
use Rattle.std.proofs.Common.{◌≡◌, ℕ, ◌+◌, ◌-◌, ◌<◌, ◌≤◌, refl, sym, ap, ◌∙◌, inl, inr, arith}
use Rattle.std.specs.Prelude.{true, false, ◌==◌, if◌then◌else◌}
use Rattle.std.proofs.lemmas.Bool.{cond-true, cond-false, cases_lt, cases_order, cases_Bool, ne_eqb, eqb-false}
use Rattle.kv_trees.specs.Same.{var_eq, ref_eq}
use Rattle.kv_trees.proofs.Same.{var_is, ref_same}
use Rattle.kv_names.specs.Names.{Name}
use Rattle.kv_trees.specs.Trees.{Term}
use Rattle.kv_names.specs.declared.symbols.Var.{Var}
use Rattle.kv_trees.specs.declared.trees.Ref.{Ref}
use Rattle.kv_trees.specs.declared.trees.Ref.TheVariants.{Free, Bound}
use Rattle.kv_trees.specs.Variables.{raised_ref}
use Rattle.kv_subst.specs.Changing.{changed_ref, variable_or}
use Rattle.kv_subst.specs.Opening.{raised_var, opened, closed_var, renamed_var, renamed}
use Rattle.kv_subst.specs.Laws.{as_named}
use Rattle.kv_subst.proofs.Single.{raised_below, raised_above, opened_below, opened_here, opened_above, opening_closed, ref_to, numbers}

-- ---- opening

-- the variable of the binder is called again by its number, and the binders further out are one more
abbrev pub reclosed : Ref → ℕ → Ref → Ref
reclosed r k q = if ref_eq q (raised_ref k r) then Bound k else raised_var 1 k q

not_bound : (r : Ref) (k m : ℕ) → ref_eq (Bound m) (raised_ref (k + 1) r) ≡ false → k < m → ref_eq (Bound (m - 1)) (raised_ref k r) ≡ false
not_bound (Free x) k m e h = refl
not_bound (Bound j) k m e h = ne_eqb (m - 1) (j + k) (λ g. eqb-false m (j + (k + 1)) e (omega arith))

low_bound : (r : Ref) (k m : ℕ) → m < k → ref_eq (Bound m) (raised_ref k r) ≡ false
low_bound (Free x) k m h = refl
low_bound (Bound j) k m h = ne_eqb m (j + k) (λ g. omega arith)

free_apart : (r : Ref) (k : ℕ) (x : Var) → ref_eq (Free x) (raised_ref (k + 1) r) ≡ false → ref_eq (Free x) (raised_ref k r) ≡ false
free_apart (Free y) k x e = e
free_apart (Bound j) k x e = refl

-- opening at a variable that doesn't stand there
module _ (r : Ref) (k : ℕ) where
  abbrev at : Ref → Ref
  at q = changed_ref (opened (Term.Place r) k) q

  else_raised : (q p : Ref) → at q ≡ p → ref_eq p (raised_ref k r) ≡ false → reclosed r k (at q) ≡ raised_var 1 k p
  else_raised q p e n = ap (reclosed r k) e ∙ cond-false (ref_eq p (raised_ref k r)) (Bound k) (raised_var 1 k p) n

  pub variable_undone : (q : Ref) → ref_eq q (raised_ref (k + 1) r) ≡ false → reclosed r k (changed_ref (opened (Term.Place r) k) q) ≡ q
  variable_undone (Free x) e = else_raised (Free x) (Free x) refl (free_apart r k x e)
  variable_undone (Bound m) e = elim (cases_order m k) [
    | inl h ↦
        ap (reclosed r k) (ref_to (opened (Term.Place r) k) (Bound m) (raised_ref k r) (opened_here (Term.Place r) k m h))
        ∙ cond-true (ref_eq (raised_ref k r) (raised_ref k r)) (Bound k) (raised_var 1 k (raised_ref k r)) (ref_same (raised_ref k r))
        ∙ ap Bound (sym h)
    | inr g ↦ elim g [
      | inl l ↦
          else_raised (Bound m) (Bound m) (ref_to (opened (Term.Place r) k) (Bound m) (Bound m) (opened_below (Term.Place r) k m l)) (low_bound r k m l)
          ∙ raised_below 1 k m l
      | inr u ↦
          else_raised (Bound m) (Bound (m - 1)) (ref_to (opened (Term.Place r) k) (Bound m) (Bound (m - 1)) (opened_above (Term.Place r) k m u)) (not_bound r k m e u)
          ∙ raised_above 1 k (m - 1) (omega arith) ∙ ap Bound (numbers (m - 1 + 1) m (omega arith))
    ]
  ]

-- opening where the bound variable doesn't stand
pub term_undone : (t : Term) (k : ℕ) (q : Ref) → ref_eq q (raised_ref k (Bound 0)) ≡ false → raised_var 1 k (changed_ref (opened t k) q) ≡ q
term_undone t k (Free x) e = refl
term_undone t k (Bound m) e = elim (cases_order m k) [
  | inl h ↦ absurd (eqb-false m (0 + k) e (omega arith))
  | inr g ↦ elim g [
    | inl l ↦ ap (raised_var 1 k) (ref_to (opened t k) (Bound m) (Bound m) (opened_below t k m l)) ∙ raised_below 1 k m l
    | inr u ↦
        ap (raised_var 1 k) (ref_to (opened t k) (Bound m) (Bound (m - 1)) (opened_above t k m u)) ∙ raised_above 1 k (m - 1) (omega arith)
        ∙ ap Bound (numbers (m - 1 + 1) m (omega arith))
  ]
]

-- ---- closing

abbrev pub reopened : Var → ℕ → Ref → Ref
reopened x k q = changed_ref (opened (Term.Place (Free x)) k) q

pub closing_undone : (x : Var) (k : ℕ) (q : Ref) → reopened x k (closed_var x k q) ≡ q
closing_undone x k q = ref_to (opened (Term.Place (Free x)) k) (closed_var x k q) q (opening_closed x k q)

-- ---- renaming

abbrev pub renamed_back : Var → Name → Ref → Ref
renamed_back x to q = if ref_eq q (as_named x to) then Free x else q

-- the variable by its new name
abbrev by_name : Var → Name → Var
by_name x to = record { name = to; sort = x.sort }

pub renaming_undone : (x : Var) (to : Name) (q : Ref) → ref_eq q (as_named x to) ≡ false → renamed_back x to (renamed_var x to q) ≡ q
renaming_undone x to (Bound m) e = refl
renaming_undone x to (Free y) e = elim (cases_Bool (var_eq y x)) [
  | inl h ↦
      ap (λ (v : Var). renamed_back x to (Free v)) (cond-true (var_eq y x) (by_name x to) y h)
      ∙ cond-true (ref_eq (as_named x to) (as_named x to)) (Free x) (as_named x to) (ref_same (as_named x to))
      ∙ ap Free (sym (var_is y x h))
  | inr h ↦
      ap (λ (v : Var). renamed_back x to (Free v)) (cond-false (var_eq y x) (by_name x to) y h)
      ∙ cond-false (ref_eq (Free y) (as_named x to)) (Free x) (Free y) e
]
