-- The place of a variable in an opening.
use Rattle.std.proofs.Common.{◌≡◌, ◌≢◌, ℕ, inl, inr, ap, ◌∙◌}
use Rattle.std.proofs.lemmas.Bool.{cases_order}
use Rattle.kv_trees.specs.Count.{term_nodes, term_depth}
use Rattle.kv_trees.specs.Trees.{Term}
use Rattle.kv_trees.specs.declared.trees.Ref.TheVariants.{Bound}
use Rattle.kv_subst.specs.Opening.{opened}
use Rattle.kv_subst.proofs.Single.{opened_below, opened_here, opened_above}
use Rattle.kv_prop.proofs.Sums.{raised_nodes, raised_depth}

pub here_nodes : (t : Term) (k m : ℕ) → m ≡ k → term_nodes (opened t k (Bound m)) ≡ term_nodes t
here_nodes t k m e = ap term_nodes (opened_here t k m e) ∙ raised_nodes k t

pub here_depth : (t : Term) (k m : ℕ) → m ≡ k → term_depth (opened t k (Bound m)) ≡ term_depth t
here_depth t k m e = ap term_depth (opened_here t k m e) ∙ raised_depth k t

pub elsewhere_nodes : (t : Term) (k m : ℕ) → m ≢ k → term_nodes (opened t k (Bound m)) ≡ 1
elsewhere_nodes t k m n = elim (cases_order m k) [
  | inl e ↦ absurd (n e)
  | inr h ↦ elim h [
    | inl l ↦ ap term_nodes (opened_below t k m l)
    | inr g ↦ ap term_nodes (opened_above t k m g)
  ]
]

pub elsewhere_depth : (t : Term) (k m : ℕ) → m ≢ k → term_depth (opened t k (Bound m)) ≡ 1
elsewhere_depth t k m n = elim (cases_order m k) [
  | inl e ↦ absurd (n e)
  | inr h ↦ elim h [
    | inl l ↦ ap term_depth (opened_below t k m l)
    | inr g ↦ ap term_depth (opened_above t k m g)
  ]
]
