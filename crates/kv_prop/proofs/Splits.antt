-- A side of a sequent with other formulas at a place, as what stands before the place, the others, and what stands behind it.
use Rattle.std.proofs.Common.{◌≡◌, ℕ, suc, ◌-◌, ◌≤◌, ◌<◌, List, [], ◌∷◌, ◌++◌, length, map, take, drop, sym, ap, ap₂, ◌∙◌, append_assoc, arith}
use Rattle.std.proofs.lemmas.List.{take-map, drop-map, set_split, length-map}
use Rattle.kv_sig.specs.Places.{with_item, with_items, without_item}

module _ (A B : Type 0) (see : A → B) (xs : List A) (place : ℕ) where
  pub split_without : map see (take (place - 1) xs) ++ map see (drop place xs) ≡ without_item (map see xs) place
  split_without = ap₂ (λ ys zs. ys ++ zs) (sym (take-map see (place - 1) xs)) (sym (drop-map see place xs))

  pub split_with : (item : B) → 1 ≤ place → place ≤ length xs → map see (take (place - 1) xs) ++ item ∷ map see (drop place xs) ≡ with_item (map see xs) place item
  split_with item low high =
      let behind : place ≡ suc (place - 1) = omega arith in
      let inside : place - 1 < length (map see xs) = omega (arith, length-map xs see) in
      ap₂ (λ ys zs. ys ++ item ∷ zs) (sym (take-map see (place - 1) xs)) (sym (drop-map see place xs) ∙ ap (λ n. drop n (map see xs)) behind)
      ∙ sym (set_split (map see xs) (place - 1) item inside)

  pub split_with_two : (first second : B) →
      map see (take (place - 1) xs) ++ first ∷ second ∷ map see (drop place xs) ≡ with_items (map see xs) place (first ∷ second ∷ [])
  split_with_two first second =
      ap₂ (λ ys zs. ys ++ first ∷ second ∷ zs) (sym (take-map see (place - 1) xs)) (sym (drop-map see place xs))
      ∙ sym (append_assoc (take (place - 1) (map see xs)) (first ∷ second ∷ []) (drop place (map see xs)))
