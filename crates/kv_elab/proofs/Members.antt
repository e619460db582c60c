-- Members of lists.
use Rattle.std.proofs.Common.{◌≡◌, ℕ, zero, suc, Bool, true, false, ◌||◌, List, [], ◌∷◌, ◌++◌, Some, length, find, slice_get, refl, sym, ap, subst, ◌∙◌}
use Rattle.std.specs.List.{list_any}
use Rattle.std.proofs.lemmas.Bool.{cases_Bool, cond-true, cond-false}
use Rattle.std.proofs.Math.Bool.{or-true}
use Rattle.std.proofs.Math.Logic.{⊎_elim}
use Rattle.kv_sig.specs.Members.{In, Every}
use Rattle.kv_elab.proofs.Outcomes.{from_some}

pub every_in : {A : Type 0} (P : A → Type 0) (x : A) (xs : List A) → Every P xs → In x xs → P x
every_in P x [] h i = elim i [ ]
every_in P x (y ∷ xs) h In.here = h.0
every_in P x (y ∷ xs) h (In.there i) = every_in P x xs h.1 i

pub every_append : {A : Type 0} (P : A → Type 0) (xs ys : List A) → Every P xs → Every P ys → Every P (xs ++ ys)
every_append P [] ys h g = g
every_append P (x ∷ xs) ys h g = (h.0, every_append P xs ys h.1 g)

pub none_in : {A : Type 0} (x : A) → In x [] → ⊥
none_in x i = elim i [ ]

-- the items of an empty list are none
pub none_of : {A : Type 0} (xs ys : List A) → ys ≡ [] → Every (λ (x : A). In x ys) xs → xs ≡ []
none_of [] ys e h = refl
none_of (x ∷ xs) ys e h = absurd (none_in x (subst (In x) e h.0))

front : (a b d : Bool) → (b ≡ false → d ≡ false) → (a || b) ≡ false → (a || d) ≡ false
front true b d k e = e
front false b d k e = k e

pub find_in : {A : Type 0} (test : A → Bool) (xs : List A) (x : A) → find test xs ≡ Some x → In x xs × (test x ≡ true)
find_in test [] x e = cc
find_in test (y ∷ xs) x e =
    ⊎_elim
    (λ t. let same : y ≡ x = from_some y x (sym (cond-true (test y) (Some y) (find test xs) t) ∙ e) in
    (subst (λ z. In z (y ∷ xs)) same In.here, subst (λ z. test z ≡ true) same t))
    (λ f. let i = find_in test xs x (sym (cond-false (test y) (Some y) (find test xs) f) ∙ e) in (In.there i.0, i.1))
    (cases_Bool (test y))

pub any_last : {A : Type 0} (test : A → Bool) (xs : List A) (x : A) → test x ≡ true → list_any test (xs ++ x ∷ []) ≡ true
any_last test [] x t = ap (λ b. b || false) t
any_last test (y ∷ xs) x t = ap (λ b. test y || b) (any_last test xs x t) ∙ or-true (test y)

pub get_front : {A : Type 0} (xs : List A) (x y : A) (i : ℕ) → slice_get xs i ≡ Some y → slice_get (xs ++ x ∷ []) i ≡ Some y
get_front [] x y i e = cc
get_front (z ∷ xs) x y zero e = e
get_front (z ∷ xs) x y (suc i) e = get_front xs x y i e

pub get_last : {A : Type 0} (xs : List A) (x : A) → slice_get (xs ++ x ∷ []) (length xs) ≡ Some x
get_last [] x = refl
get_last (y ∷ xs) x = get_last xs x

pub true_not_false : true ≡ false → ⊥
true_not_false e = cc

pub cases_in : {A : Type 0} (P : A → Type 0) (x y : A) (ys : List A) → P y → (In x ys → P x) → In x (y ∷ ys) → P x
cases_in P x y ys h k In.here = h
cases_in P x y ys h k (In.there i) = k i

pub any_front : {A : Type 0} (test : A → Bool) (xs ys : List A) → list_any test (xs ++ ys) ≡ false → list_any test xs ≡ false
any_front test [] ys e = refl
any_front test (x ∷ xs) ys e = front (test x) (list_any test (xs ++ ys)) (list_any test xs) (any_front test xs ys) e
