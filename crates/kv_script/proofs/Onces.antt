-- The members of a list whose items stand once.
use Rattle.std.proofs.Common.{Bool, true, false, ◌||◌, if◌then◌else◌, List, [], ◌∷◌, ◌++◌, inl, inr, ◌≡◌, ◌⊎◌, refl, sym, subst}
use Rattle.std.specs.List.{list_any}
use Rattle.kv_sig.specs.Members.{In, here, there}
use Rattle.kv_calc.proofs.Members.{in_front, in_back, in_either}
use Rattle.kv_goal.specs.Once.{once_after, once}

if_in : {A : Type 0} (b : Bool) (us vs : List A) (x : A) → In x (if b then us else vs) → In x us ⊎ In x vs
if_in true us vs x i = inl i
if_in false us vs x i = inr i

module _ {A : Type 0} (same : A → A → Bool) where
  in_after : (xs seen : List A) (x : A) → In x (once_after same seen xs) → In x seen ⊎ In x xs
  in_after [] seen x i = inl i
  in_after (y ∷ ys) seen x i = elim (if_in (list_any (same y) seen) (once_after same seen ys) (once_after same (seen ++ y ∷ []) ys) x i) [
    | inl j ↦ elim (in_after ys seen x j) [ inl k ↦ inl k | inr k ↦ inr (there k) ]
    | inr j ↦ elim (in_after ys (seen ++ y ∷ []) x j) [
      | inl k ↦ elim (in_either seen (y ∷ []) k) [ inl l ↦ inl l | inr l ↦ inr (in_front ys l) ]
      | inr k ↦ inr (there k)
    ]
  ]

  none_before : (x : A) (xs : List A) → In x [] ⊎ In x xs → In x xs
  none_before x xs (inl i) = elim i [ ]
  none_before x xs (inr i) = i

  -- nothing is added
  pub in_once : (xs : List A) (x : A) → In x (once same xs) → In x xs
  in_once xs x i = none_before x xs (in_after xs [] x i)

  -- where the test tells equal items, nothing is left out
  module _ (is : (x y : A) → same x y ≡ true → x ≡ y) where
    front_or : (x y : A) (ys : List A) (b : Bool) → same x y ≡ b → (list_any (same x) ys ≡ true → In x ys) → (b || list_any (same x) ys) ≡ true → In x (y ∷ ys)
    front_or x y ys true h later e = subst (λ z. In z (y ∷ ys)) (sym (is x y h)) here
    front_or x y ys false h later e = there (later e)

    any_in : (x : A) (xs : List A) → list_any (same x) xs ≡ true → In x xs
    any_in x [] e = cc
    any_in x (y ∷ ys) e = front_or x y ys (same x y) refl (any_in x ys) e

    -- the item in front was seen, or is seen now
    move_seen : (x y : A) (seen ys : List A) → In y seen → In x seen ⊎ In x (y ∷ ys) → In x seen ⊎ In x ys
    move_seen x y seen ys h (inl i) = inl i
    move_seen x y seen ys h (inr here) = inl h
    move_seen x y seen ys h (inr (there i)) = inr i

    move_new : (x y : A) (seen ys : List A) → In x seen ⊎ In x (y ∷ ys) → In x (seen ++ y ∷ []) ⊎ In x ys
    move_new x y seen ys (inl i) = inl (in_front (y ∷ []) i)
    move_new x y seen ys (inr here) = inl (in_back seen here)
    move_new x y seen ys (inr (there i)) = inr i

    by_seen : (x y : A) (seen ys : List A) (b : Bool) → list_any (same y) seen ≡ b → In x seen ⊎ In x (y ∷ ys)
        → ((more : List A) → In x more ⊎ In x ys → In x (once_after same more ys)) → In x (if b then once_after same seen ys else once_after same (seen ++ y ∷ []) ys)
    by_seen x y seen ys true h i later = later seen (move_seen x y seen ys (any_in y seen h) i)
    by_seen x y seen ys false h i later = later (seen ++ y ∷ []) (move_new x y seen ys i)

    after_in : (xs seen : List A) (x : A) → In x seen ⊎ In x xs → In x (once_after same seen xs)
    after_in [] seen x (inl i) = i
    after_in [] seen x (inr i) = elim i [ ]
    after_in (y ∷ ys) seen x i = by_seen x y seen ys (list_any (same y) seen) refl i (λ more j. after_in ys more x j)

    pub once_in : (xs : List A) (x : A) → In x xs → In x (once same xs)
    once_in xs x i = after_in xs [] x (inr i)
