-- Terms one by one and as a list.
use Rattle.std.proofs.Common.{◌≡◌, ℕ, ◌≤◌, List, [], ◌∷◌, length, take, map, refl, ap, ◌∙◌, take_all}
use Rattle.kv_trees.specs.Trees as P
use Rattle.kv_trees.specs.Bridge.{plain_term, plain_terms, terms_of}
use Rattle.kv_trees.specs.declared.trees.Ref.{Ref}
use Rattle.kv_trees.specs.declared.trees.Term.{Term}
use Rattle.kv_trees.specs.Variables.{raised_ref}
use Rattle.kv_subst.specs.Changing.{changed_term, changed_terms}
use Rattle.kv_subst.specs.Opening.{raised_term, raised_terms}

-- at the end of a loop that changes each term
pub changed_each : (c : Ref → P.Term) (xs ys : List Term) (i : ℕ) → length xs ≤ i → map plain_term ys ≡ map (changed_term c) (map plain_term (take i xs)) → plain_terms ys ≡ changed_terms c (plain_terms xs)
changed_each c xs ys i h e = ap terms_of e ∙ ap (λ zs. terms_of (map (changed_term c) (map plain_term zs))) (take_all i xs h) ∙ go (map plain_term xs) where
  go : (zs : List P.Term) → terms_of (map (changed_term c) zs) ≡ changed_terms c (terms_of zs)
  go [] = refl
  go (z ∷ zs) = ap (P.Terms.more (changed_term c z)) (go zs)

pub raised_each : (n : ℕ) (xs ys : List Term) (i : ℕ) → length xs ≤ i → map plain_term ys ≡ map (raised_term n) (map plain_term (take i xs)) → plain_terms ys ≡ raised_terms n (plain_terms xs)
raised_each n = changed_each (λ r. P.Term.Place (raised_ref n r))
