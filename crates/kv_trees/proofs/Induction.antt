-- Induction over terms, a case for each constructor.
use Rattle.std.proofs.Common.{ℕ, List, map, sym, subst}
use Rattle.kv_trees.specs.declared.trees.Ref.{Ref}
use Rattle.kv_trees.specs.declared.trees.Term.{Term, Term-F, ind-Term, roll-Term, fold-roll-Term}
use Rattle.kv_trees.specs.declared.trees.Term as T
use Rattle.kv_trees.specs.declared.trees.Term.TheOpen as O
use Rattle.kv_trees.specs.declared.trees.Term.TheVariants.{rolls-Place, rolls-App}

-- the list of the terms, each of which has its proof beside it
abbrev pub bare : {P : Term → Type 0} → List ((t : Term) × P t) → List Term
bare es = map (λ e. e.0) es

module _ (P : Term → Type 0) (place : (r : Ref) → P (T.Place r)) (app : (f : List ℕ) (es : List ((t : Term) × P t)) → P (T.App f (bare {P = P} es))) where
  node : (y : Term-F ((t : Term) × P t)) → P (roll-Term (T.map-Term ((t : Term) × P t) Term (λ e. e.0) y))
  node (O.Place r) = subst P (sym (rolls-Place r)) (place r)
  node (O.App f es) = subst P (sym (rolls-App f (bare {P = P} es))) (app f es)

  pub term_induction : (t : Term) → P t
  term_induction = ind-Term P (λ x y is. subst (λ z. P (roll-Term z)) is (node y))
