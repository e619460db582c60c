-- Facts on the members of lists.
use Rattle.std.proofs.Common.{ℕ, zero, suc, Bool, true, false, ◌==◌, if◌then◌else◌, List, [], ◌∷◌, ◌++◌, take, drop, set, Option, Some, None, ◌≡◌, ◌⊎◌, inl, inr, ◌-◌, subst}
use Rattle.std.specs.List.{slice_get}
use Rattle.kv_sig.specs.Members.{In, here, there, Every}
use Rattle.kv_sig.specs.Places.{item_at, with_items, without_item}

abbrev pub Sub : {A : Type 0} → List A → List A → Type 0
Sub {A} xs ys = (x : A) → In x xs → In x ys

pub in_front : {A : Type 0} {x : A} {xs : List A} (ys : List A) → In x xs → In x (xs ++ ys)
in_front ys here = here
in_front ys (there i) = there (in_front ys i)

pub in_back : {A : Type 0} {x : A} (xs : List A) {ys : List A} → In x ys → In x (xs ++ ys)
in_back [] i = i
in_back (y ∷ xs) i = there (in_back xs i)

pub in_either : {A : Type 0} {x : A} (xs ys : List A) → In x (xs ++ ys) → In x xs ⊎ In x ys
in_either [] ys i = inr i
in_either (y ∷ xs) ys here = inl here
in_either (y ∷ xs) ys (there i) = elim (in_either xs ys i) [ inl j ↦ inl (there j) | inr j ↦ inr j ]

pub every_in : {A : Type 0} (P : A → Type 0) (xs : List A) → Every P xs → (x : A) → In x xs → P x
every_in P [] e x i = elim i [ ]
every_in P (y ∷ xs) e x here = e.0
every_in P (y ∷ xs) e x (there i) = every_in P xs e.1 x i

pub every_of : {A : Type 0} (P : A → Type 0) (xs : List A) → ((x : A) → In x xs → P x) → Every P xs
every_of P [] h = tt
every_of P (x ∷ xs) h = (h x here, every_of P xs (λ y i. h y (there i)))

-- ---- one more at the end, or another one in place

pub every_push : {A : Type 0} (P : A → Type 0) (xs : List A) (x : A) → Every P xs → P x → Every P (xs ++ x ∷ [])
every_push P [] x e p = (p, tt)
every_push P (y ∷ xs) x e p = (e.0, every_push P xs x e.1 p)

pub every_set : {A : Type 0} (P : A → Type 0) (xs : List A) (i : ℕ) (x : A) → Every P xs → P x → Every P (set xs i x)
every_set P [] i x e p = tt
every_set P (y ∷ xs) zero x e p = (p, e.1)
every_set P (y ∷ xs) (suc i) x e p = (e.0, every_set P xs i x e.1 p)

-- ---- the item at a place

in_get : {A : Type 0} (xs : List A) (i : ℕ) (x : A) → slice_get xs i ≡ Some x → In x xs
in_get [] i x e = cc
in_get (y ∷ xs) zero x e = subst (λ z. In z (y ∷ xs)) (same e) here
  where
    same : Some y ≡ Some x → y ≡ x
    same e' = cc
in_get (y ∷ xs) (suc i) x e = there (in_get xs i x e)

at_some : {A : Type 0} (zero : Bool) (o : Option A) (x : A) → (if zero then None else o) ≡ Some x → o ≡ Some x
at_some true o x e = cc
at_some false o x e = e

pub in_item : {A : Type 0} (xs : List A) (i : ℕ) (x : A) → item_at xs i ≡ Some x → In x xs
in_item xs i x e = in_get xs (i - 1) x (at_some (i == 0) (slice_get xs (i - 1)) x e)

-- ---- the list without an item

in_take : {A : Type 0} (n : ℕ) (xs : List A) → Sub (take n xs) xs
in_take zero xs x i = elim i [ ]
in_take (suc n) [] x i = i
in_take (suc n) (y ∷ xs) x here = here
in_take (suc n) (y ∷ xs) x (there i) = there (in_take n xs x i)

in_drop : {A : Type 0} (n : ℕ) (xs : List A) → Sub (drop n xs) xs
in_drop zero xs x i = i
in_drop (suc n) [] x i = i
in_drop (suc n) (y ∷ xs) x i = there (in_drop n xs x i)

pub in_without : {A : Type 0} (xs : List A) (i : ℕ) → Sub (without_item xs i) xs
in_without xs i x m = elim (in_either (take (i - 1) xs) (drop i xs) m) [ inl a ↦ in_take (i - 1) xs x a | inr b ↦ in_drop i xs x b ]

-- ---- every item of a list without an item, or with others in its place

pub every_append : {A : Type 0} (P : A → Type 0) (xs ys : List A) → Every P xs → Every P ys → Every P (xs ++ ys)
every_append P [] ys e f = f
every_append P (x ∷ xs) ys e f = (e.0, every_append P xs ys e.1 f)

pub every_sub : {A : Type 0} (P : A → Type 0) (xs ys : List A) → Sub xs ys → Every P ys → Every P xs
every_sub P xs ys s e = every_of P xs (λ x i. every_in P ys e x (s x i))

pub every_without : {A : Type 0} (P : A → Type 0) (xs : List A) (i : ℕ) → Every P xs → Every P (without_item xs i)
every_without P xs i e = every_sub P (without_item xs i) xs (in_without xs i) e

pub every_with_items : {A : Type 0} (P : A → Type 0) (xs : List A) (i : ℕ) (new : List A) → Every P xs → Every P new → Every P (with_items xs i new)
every_with_items P xs i new e f =
    every_append P (take (i - 1) xs ++ new) (drop i xs)
    (every_append P (take (i - 1) xs) new (every_sub P (take (i - 1) xs) xs (in_take (i - 1) xs) e) f)
    (every_sub P (drop i xs) xs (in_drop i xs) e)
