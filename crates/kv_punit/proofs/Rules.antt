-- A text that is a row of a table is UTF-8.
use Rattle.std.proofs.Common.{ℕ, zero, suc, ◌≡◌, ◌<◌, List, [], ◌∷◌, refl, subst, arith, inl, inr}
use Rattle.std.specs.Prelude.{Bool, true, nat_le, Option, Some, None, ◌⊎◌, slice_get}
use Rattle.std.specs.List.{All, list_all}
use Rattle.std.specs.Str.{IsUtf8}
use Rattle.std.proofs.lemmas.List.Elements.{All-nil, All-cons}
use Rattle.std.proofs.lemmas.Option.{slice_get_within}
use Rattle.std.proofs.lemmas.Str.{IsUtf8-from_ascii}
use Rattle.std.proofs.lemmas.Str.Ascii.{IsAscii-from_all}
use Rattle.kv_pexpr.proofs.Steps.{some_is}
use Rattle.kv_table.specs.Names.{row_of}
use Rattle.kv_table.proofs.Lookup.{found_row}
use Rattle.kv_punit.specs.Tests.{are_ascii}
use Rattle.kv_punit.proofs.Checks.{and_true, le_from}

passes_at : (p : List ℕ → Bool) (xs : List (List ℕ)) (i : ℕ) (x : List ℕ) → list_all p xs ≡ true → slice_get xs i ≡ Some x → p x ≡ true
passes_at p [] i x e f = absurd (omega (arith, slice_get_within [] i x f))
passes_at p (y ∷ ys) zero x e f =
    let same : y ≡ x = some_is f in
    subst (λ z. p z ≡ true) same (and_true (p y) (list_all p ys) e).0
passes_at p (y ∷ ys) (suc i) x e f = passes_at p ys i x (and_true (p y) (list_all p ys) e).1 f

all_ascii : (n : List ℕ) → list_all (λ c. nat_le c 127) n ≡ true → All (λ b. b < 128) n
all_ascii [] e = All-nil (λ b. b < 128)
all_ascii (c ∷ cs) e =
    let both = and_true (nat_le c 127) (list_all (λ c. nat_le c 127) cs) e in
    let low = le_from c 127 both.0 in
    All-cons (λ b. b < 128) c cs (omega arith) (all_ascii cs both.1)

none_or : {A : Type 0} (o : Option A) → (o ≡ None) ⊎ ((x : A) × (o ≡ Some x))
none_or None = inl refl
none_or (Some x) = inr (x, refl)

-- a text that isn't UTF-8 is no row of ASCII
pub no_row : (rows : List (List ℕ)) (n : List ℕ) → are_ascii rows ≡ true → (IsUtf8 n → ⊥) → row_of rows n ≡ None
no_row rows n ascii bad = elim (none_or (row_of rows n)) [
  | inl e ↦ e
  | inr r ↦ absurd (bad (IsUtf8-from_ascii n (IsAscii-from_all n (all_ascii n (passes_at (list_all (λ c. nat_le c 127)) rows r.0 n ascii (found_row rows n r.0 r.1))))))
]
