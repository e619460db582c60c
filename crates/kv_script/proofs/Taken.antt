-- Items that are taken out of a list one after the other.
use Rattle.std.proofs.Common.{ℕ, zero, suc, ◌+◌, List, [], ◌∷◌, length, drop, Some, ◌≡◌, refl, ap, ◌∙◌, subst, arith}
use Rattle.std.specs.Prelude.{slice_get, slice_set}

next : (i : ℕ) → suc i ≡ i + 1
next i = omega arith

first_behind : {A : Type 0} (xs : List A) (i : ℕ) (x e : A) → slice_get xs i ≡ Some x → drop i xs ≡ x ∷ drop (suc i) (slice_set xs i e)
first_behind [] i x e at = cc
first_behind (y ∷ ys) zero x e at = let same : y ≡ x = cc in ap (λ z. z ∷ ys) same
first_behind (y ∷ ys) (suc i) x e at = first_behind ys i x e at

-- what stands from the place on, where the item there was exchanged
pub first_out : {A : Type 0} (xs : List A) (i : ℕ) (x e : A) → slice_get xs i ≡ Some x → drop i xs ≡ x ∷ drop (i + 1) (slice_set xs i e)
first_out xs i x e at = first_behind xs i x e at ∙ ap (λ n. x ∷ drop n (slice_set xs i e)) (next i)

pub same_length : {A : Type 0} (xs : List A) (i : ℕ) (e : A) → length (slice_set xs i e) ≡ length xs
same_length [] i e = refl
same_length (x ∷ xs) zero e = refl
same_length (x ∷ xs) (suc i) e = ap suc (same_length xs i e)

behind_next : {A : Type 0} (xs : List A) (i : ℕ) (x : A) (ys : List A) → drop i xs ≡ x ∷ ys → drop (suc i) xs ≡ ys
behind_next [] zero x ys e = cc
behind_next [] (suc i) x ys e = cc
behind_next (z ∷ zs) zero x ys e = cc
behind_next (z ∷ zs) (suc i) x ys e = behind_next zs i x ys e

-- one place on
pub behind : {A : Type 0} (xs : List A) (i : ℕ) (x : A) (ys : List A) → drop i xs ≡ x ∷ ys → drop (i + 1) xs ≡ ys
behind xs i x ys e = subst (λ n. drop n xs ≡ ys) (next i) (behind_next xs i x ys e)
