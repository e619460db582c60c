-- Terms one by one and as a list.
use Rattle.std.proofs.Common.{◌≡◌, ℕ, ◌≤◌, List, [], ◌∷◌, length, take, map, refl, ap, ◌∙◌, take_all}
use Rattle.kv_trees.specs.Bridge.{plain_term, plain_terms, terms_of}
use Rattle.kv_trees.specs.Trees as P
use Rattle.kv_trees.specs.declared.trees.Term.{Term}
use Rattle.kv_prop.specs.Replacing.{replaced_term, replaced_terms}

-- at the end of a loop that replaces in each term
pub replaced_each : (t u : P.Term) (xs ys : List Term) (i : ℕ) → length xs ≤ i → map plain_term ys ≡ map (replaced_term t u) (map plain_term (take i xs)) →
    plain_terms ys ≡ replaced_terms t u (plain_terms xs)
replaced_each t u xs ys i h e = ap terms_of e ∙ ap (λ zs. terms_of (map (replaced_term t u) (map plain_term zs))) (take_all i xs h) ∙ go (map plain_term xs) where
  go : (zs : List P.Term) → terms_of (map (replaced_term t u) zs) ≡ replaced_terms t u (terms_of zs)
  go [] = refl
  go (z ∷ zs) = ap (P.Terms.more (replaced_term t u z)) (go zs)
