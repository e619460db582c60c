-- Where a thing stands first that passes a test.
use Rattle.std.proofs.Common.{ℕ, zero, suc, ◌≡◌, ◌+◌, ◌<◌, Bool, true, false, List, [], ◌∷◌, map, length, get_or, Option, Some, None, refl, sym, ap, ◌∙◌, subst, arith}
use Rattle.std.specs.Prelude.{cond, find, is_some, position, slice_get}
use Rattle.std.specs.List.{position_from}
use Rattle.std.specs.Option.{option_map}
use Rattle.std.proofs.lemmas.Iterator.Adapters.{position_from-zero}
use Rattle.std.proofs.lemmas.Option.{slice_get-get_or}

pub some_is : {A : Type 0} {x y : A} → Some x ≡ Some y → x ≡ y
some_is e = cc

-- the thing at that place passes the test, and none before it does
abbrev pub IsFirst : {X : Type 0} → (X → Bool) → ℕ → List X → Type 0
IsFirst p place [] = ⊥
IsFirst p zero (x ∷ xs) = p x ≡ true
IsFirst p (suc place) (x ∷ xs) = (p x ≡ false) × IsFirst p place xs

none_case : {X : Type 0} (b : Bool) (x : X) (k : ℕ) (o : Option ℕ) (f : Option X) → (o ≡ None → f ≡ None) → cond b (Some k) o ≡ None → cond b (Some x) f ≡ None
none_case true x k o f others e = absurd (cc)
none_case false x k o f others e = others e

none_from : {X : Type 0} (p : X → Bool) (xs : List X) (k : ℕ) → position_from p k xs ≡ None → find p xs ≡ None
none_from p [] k e = refl
none_from p (x ∷ xs) k e = none_case (p x) x k (position_from p (k + 1) xs) (find p xs) (none_from p xs (k + 1)) e

-- where no place is found, nothing is
pub find-none : {X : Type 0} (p : X → Bool) (xs : List X) → position p xs ≡ None → find p xs ≡ None
find-none p xs e = none_from p xs 0 (sym (position_from-zero p xs) ∙ e)

abbrev FirstFrom : {X : Type 0} → (X → Bool) → List X → ℕ → ℕ → Type 0
FirstFrom p xs k i = (j : ℕ) × (k + j ≡ i) × IsFirst p j xs

first_case : {X : Type 0} (b : Bool) (p : X → Bool) (x : X) (xs : List X) (k i : ℕ) (o : Option ℕ) → p x ≡ b → (o ≡ Some i → FirstFrom p xs (k + 1) i) → cond b (Some k) o ≡ Some i → FirstFrom p (x ∷ xs) k i
first_case true p x xs k i o is others e = let same : k ≡ i = cc in (0, omega arith, is)
first_case false p x xs k i o is others e = let (j, sum, first) = others e in (suc j, omega arith, (is, first))

first_from : {X : Type 0} (p : X → Bool) (xs : List X) (k i : ℕ) → position_from p k xs ≡ Some i → FirstFrom p xs k i
first_from p [] k i e = absurd (cc)
first_from p (x ∷ xs) k i e = first_case (p x) p x xs k i (position_from p (k + 1) xs) refl (first_from p xs (k + 1) i) e

pub first-position : {X : Type 0} (p : X → Bool) (xs : List X) (i : ℕ) → position p xs ≡ Some i → IsFirst p i xs
first-position p xs i e =
    let (j, sum, first) = first_from p xs 0 i (sym (position_from-zero p xs) ∙ e) in
    let same : j ≡ i = omega arith in
    subst (λ n. IsFirst p n xs) same first

pub first_below : {X : Type 0} (p : X → Bool) (i : ℕ) (xs : List X) → IsFirst p i xs → i < length xs
first_below p i [] first = absurd first
first_below p zero (x ∷ xs) first = omega arith
first_below p (suc i) (x ∷ xs) first = let below = first_below p i xs first.1 in omega arith

pub find-first : {X : Type 0} (p : X → Bool) (i : ℕ) (xs : List X) (x : X) → IsFirst p i xs → slice_get xs i ≡ Some x → find p xs ≡ Some x
find-first p i [] x first at = absurd first
find-first p zero (y ∷ ys) x first at = rw first at
find-first p (suc i) (y ∷ ys) x first at = rw first.0 (find-first p i ys x first.1 at)

find_case : {X Y : Type 0} (b : Bool) (h : X → Y) (x : X) (f : Option Y) (g : Option X) → f ≡ option_map h g → cond b (Some (h x)) f ≡ option_map h (cond b (Some x) g)
find_case true h x f g e = refl
find_case false h x f g e = e

pub find-map : {X Y : Type 0} (q : Y → Bool) (h : X → Y) (xs : List X) → find q (map h xs) ≡ option_map h (find (λ x. q (h x)) xs)
find-map q h [] = refl
find-map q h (x ∷ xs) = find_case (q (h x)) h x (find q (map h xs)) (find (λ y. q (h y)) xs) (find-map q h xs)

-- where a place is found, a thing is
pub find-some : {X : Type 0} (p : X → Bool) (i : ℕ) (xs : List X) → IsFirst p i xs → (x : X) × (slice_get xs i ≡ Some x)
find-some p i [] first = absurd first
find-some p zero (y ∷ ys) first = (y, refl)
find-some p (suc i) (y ∷ ys) first = find-some p i ys first.1

pub was_none : (o : Option ℕ) → is_some o ≡ false → o ≡ None
was_none None e = refl
was_none (Some n) e = absurd (cc)

pub was_some : (o : Option ℕ) → is_some o ≡ true → (n : ℕ) × (o ≡ Some n)
was_some None e = absurd (cc)
was_some (Some n) e = (n, refl)

-- the item that is read at a place
pub item_at : {X : Type 0} (xs ys : List X) (i : ℕ) (x : X) → ys ≡ xs → x ≡ get_or ys i x → i < length xs → slice_get xs i ≡ Some x
item_at xs ys i x same is within = slice_get-get_or xs i x within ∙ ap Some (sym (is ∙ ap (λ l. get_or l i x) same))
