-- Nodes and depth of formulas in a row, and of terms that are put somewhere.
use Rattle.std.proofs.Common.{◌≡◌, ℕ, ◌+◌, List, [], ◌∷◌, ◌++◌, refl, arith}
use Rattle.std.specs.Prelude.{max}
use Rattle.kv_trees.specs.Count.{term_nodes, terms_nodes, term_depth, terms_depth, forms_nodes, forms_depth}
use Rattle.kv_trees.specs.Trees.{Term, Terms, Form}
use Rattle.kv_subst.specs.Opening.{raised_term, raised_terms}

pub nodes_of_both : (xs ys : List Form) → forms_nodes (xs ++ ys) ≡ forms_nodes xs + forms_nodes ys
nodes_of_both [] ys = omega arith
nodes_of_both (x ∷ xs) ys = omega (arith, nodes_of_both xs ys)

pub depth_of_both : (xs ys : List Form) → forms_depth (xs ++ ys) ≡ max (forms_depth xs) (forms_depth ys)
depth_of_both [] ys = omega arith
depth_of_both (x ∷ xs) ys = omega (arith, depth_of_both xs ys)

-- under more binders a term is as large as before
mutual
  pub raised_nodes : (k : ℕ) (t : Term) → term_nodes (raised_term k t) ≡ term_nodes t
  raised_nodes k (Term.Place r) = refl
  raised_nodes k (Term.App f ts) = omega (arith, raised_all_nodes k ts)

  raised_all_nodes : (k : ℕ) (ts : Terms) → terms_nodes (raised_terms k ts) ≡ terms_nodes ts
  raised_all_nodes k Terms.none = refl
  raised_all_nodes k (Terms.more t ts) = omega (arith, raised_nodes k t, raised_all_nodes k ts)

mutual
  pub raised_depth : (k : ℕ) (t : Term) → term_depth (raised_term k t) ≡ term_depth t
  raised_depth k (Term.Place r) = refl
  raised_depth k (Term.App f ts) = omega (arith, raised_all_depth k ts)

  raised_all_depth : (k : ℕ) (ts : Terms) → terms_depth (raised_terms k ts) ≡ terms_depth ts
  raised_all_depth k Terms.none = refl
  raised_all_depth k (Terms.more t ts) = omega (arith, raised_depth k t, raised_all_depth k ts)
