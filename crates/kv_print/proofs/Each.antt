-- Terms one by one and as a list.
use Rattle.std.proofs.Common.{◌≡◌, ℕ, ◌≤◌, List, [], ◌∷◌, length, take, map, refl, ap, ◌∙◌, take_all}
use Rattle.kv_trees.specs.Bridge.{plain_term, plain_terms, terms_of}
use Rattle.kv_raw.specs.RawBridge.{raw_term, raw_terms, raw_terms_of}
use Rattle.kv_raw.specs.RawTrees.{RawTerms}
use Rattle.kv_trees.specs.Trees as P
use Rattle.kv_raw.specs.declared.raws.RawTerm.{RawTerm}
use Rattle.kv_trees.specs.declared.trees.Term.{Term}
use Rattle.kv_print.specs.Shown.{shown_term, shown_terms}

-- at the end of a loop that shows each term
pub shown_each : (around : ℕ) (xs : List Term) (ys : List RawTerm) (i : ℕ) → length xs ≤ i → map raw_term ys ≡ map (shown_term around) (map plain_term (take i xs)) → raw_terms ys ≡ shown_terms around (plain_terms xs)
shown_each around xs ys i h e = ap raw_terms_of e ∙ ap (λ zs. raw_terms_of (map (shown_term around) (map plain_term zs))) (take_all i xs h) ∙ go (map plain_term xs) where
  go : (zs : List P.Term) → raw_terms_of (map (shown_term around) zs) ≡ shown_terms around (terms_of zs)
  go [] = refl
  go (z ∷ zs) = ap (RawTerms.more (shown_term around z)) (go zs)
