-- Lists with the item at a place changed, and changes that are taken back.
use Rattle.std.proofs.Common.{ℕ, zero, suc, ◌≡◌, ◌<◌, Bool, List, [], ◌∷◌, ◌++◌, length, Option, Some, None, refl, sym, ap, ap₂, ◌∙◌, arith}
use Rattle.std.specs.Prelude.{◌&&◌, IsSomeAnd, MatchOption, slice_get, slice_set}
use Rattle.std.specs.List.{list_all}
use Rattle.std.proofs.lemmas.List.{length_push, same_from_push}
use Rattle.kv_session.proofs.Found.{some_is}
use Rattle.kv_session.specs.Places.{changed_at, more_proofs, more_theorems, other_proof}
use Rattle.kv_syn.specs.Readable.{is_readable_kind, is_readable_unit}
use Rattle.kv_syn.specs.declared.units.Proof.{Proof}
use Rattle.kv_syn.specs.declared.units.Theorem.{Theorem}
use Rattle.kv_syn.specs.declared.units.Unit as units

-- a place that is set to the changed item is changed
set-changed : {X : Type 0} (f : X → X) (xs : List X) (i : ℕ) (x : X) → slice_get xs i ≡ Some x → slice_set xs i (f x) ≡ changed_at i f xs
set-changed f [] i x at = refl
set-changed f (y ∷ ys) zero x at = ap (λ z. f z ∷ ys) (sym (some_is at))
set-changed f (y ∷ ys) (suc i) x at = ap (λ l. y ∷ l) (set-changed f ys i x at)

set-const : {X : Type 0} (xs : List X) (i : ℕ) (y : X) → slice_set xs i y ≡ changed_at i (λ _. y) xs
set-const [] i y = refl
set-const (x ∷ xs) zero y = refl
set-const (x ∷ xs) (suc i) y = ap (λ l. x ∷ l) (set-const xs i y)

-- a change that is taken back
changed_back : {X : Type 0} (f g : X → X) (xs : List X) (i : ℕ) (x : X) → slice_get xs i ≡ Some x → g (f x) ≡ x → changed_at i g (changed_at i f xs) ≡ xs
changed_back f g [] i x at back = refl
changed_back f g (y ∷ ys) zero x at back = let same : y ≡ x = some_is at in ap (λ z. g (f z) ∷ ys) same ∙ ap₂ (λ a l. a ∷ l) back refl ∙ ap (λ z. z ∷ ys) (sym same)
changed_back f g (y ∷ ys) (suc i) x at back = ap (λ l. y ∷ l) (changed_back f g ys i x at back)

length-changed : {X : Type 0} (f : X → X) (xs : List X) (i : ℕ) → length (changed_at i f xs) ≡ length xs
length-changed f [] i = refl
length-changed f (x ∷ xs) zero = refl
length-changed f (x ∷ xs) (suc i) = ap suc (length-changed f xs i)

-- a place of the list is one of the changed list
pub still_within : {X : Type 0} (f : X → X) (xs ys : List X) (i : ℕ) → ys ≡ changed_at i f xs → i < length xs → i < length ys
still_within f xs ys i is within = let same : length ys ≡ length xs = ap length is ∙ length-changed f xs i in omega arith

set-same : {X : Type 0} (xs : List X) (i : ℕ) (x : X) → slice_get xs i ≡ Some x → slice_set xs i x ≡ xs
set-same [] i x at = refl
set-same (y ∷ ys) zero x at = ap (λ z. z ∷ ys) (sym (some_is at))
set-same (y ∷ ys) (suc i) x at = ap (λ l. y ∷ l) (set-same ys i x at)

-- an item that passes the test alike
all-set : {X : Type 0} (p : X → Bool) (xs : List X) (i : ℕ) (x y : X) → slice_get xs i ≡ Some x → p y ≡ p x → list_all p (slice_set xs i y) ≡ list_all p xs
all-set p [] i x y at same = refl
all-set p (z ∷ zs) zero x y at same = ap (λ b. b && list_all p zs) (same ∙ ap p (sym (some_is at)))
all-set p (z ∷ zs) (suc i) x y at same = ap (λ b. p z && b) (all-set p zs i x y at same)

-- a unit of the same kind is as readable
pub readable-set : (us : List units.Unit) (place : ℕ) (unit other : units.Unit) → slice_get us place ≡ Some unit → other.kind ≡ unit.kind → list_all is_readable_unit (slice_set us place other) ≡ list_all is_readable_unit us
readable-set us place unit other at same = all-set is_readable_unit us place unit other at (ap is_readable_kind same)

-- an item after a change that is taken off again
set-back : {X : Type 0} (f : X → X) (before : List X) (i : ℕ) (x y : X) → slice_get (changed_at i f before) i ≡ Some x → ((z : X) → x ≡ f z → y ≡ z) → slice_set (changed_at i f before) i y ≡ before
set-back f [] i x y at back = refl
set-back f (z ∷ zs) zero x y at back = ap (λ a. a ∷ zs) (back z (sym (some_is at)))
set-back f (z ∷ zs) (suc i) x y at back = ap (λ l. z ∷ l) (set-back f zs i x y at back)

pub taken_back : (f : units.Unit → units.Unit) (us before : List units.Unit) (place : ℕ) (unit other : units.Unit) → slice_get us place ≡ Some unit → ((z : units.Unit) → unit ≡ f z → other ≡ z) → us ≡ changed_at place f before → slice_set us place other ≡ before
taken_back f us before place unit other at back is =
    ap (λ l. slice_set l place other) is ∙ set-back f before place unit other (ap (λ l. slice_get l place) (sym is) ∙ at) back

not_empty : {X : Type 0} (xs : List X) (x : X) → xs ++ x ∷ [] ≡ [] → ⊥
not_empty xs x e = let some = length_push xs x in let none = ap length e in absurd (omega arith)

-- what the last is taken off, after a push
popped : {X : Type 0} (result : Option X) (xs ys left : List X) (x : X) → xs ≡ ys ++ x ∷ [] → MatchOption result ((xs ≡ []) × (left ≡ [])) (λ last. xs ≡ left ++ last ∷ []) → left ≡ ys
popped None xs ys left x pushed was = absurd (not_empty ys x (sym pushed ∙ was.0))
popped (Some last) xs ys left x pushed was = (same_from_push left ys last x (sym was ∙ pushed)).0

pub theorem_back : (result : Option Theorem) (unit before : units.Unit) (theorem : Theorem) (left : List Theorem) → MatchOption result ((unit.theorems ≡ []) × (left ≡ [])) (λ last. unit.theorems ≡ left ++ last ∷ []) → unit ≡ more_theorems theorem before → record unit { theorems = left } ≡ before
theorem_back result unit before theorem left was is =
    ap (λ (u : units.Unit). record u { theorems = left }) is ∙ ap (λ ts. record before { theorems = ts }) (popped result unit.theorems before.theorems left theorem (ap (λ (u : units.Unit). u.theorems) is) was)

pub proof_back : (result : Option Proof) (unit before : units.Unit) (proof : Proof) (left : List Proof) → MatchOption result ((unit.proofs ≡ []) × (left ≡ [])) (λ last. unit.proofs ≡ left ++ last ∷ []) → unit ≡ more_proofs proof before → record unit { proofs = left } ≡ before
proof_back result unit before proof left was is =
    ap (λ (u : units.Unit). record u { proofs = left }) is ∙ ap (λ ps. record before { proofs = ps }) (popped result unit.proofs before.proofs left proof (ap (λ (u : units.Unit). u.proofs) is) was)

-- pushes, as the code sets the unit at its place
pub theorem_pushed : (us : List units.Unit) (place : ℕ) (unit : units.Unit) (theorem : Theorem) (theorems : List Theorem) → slice_get us place ≡ Some unit → theorems ≡ unit.theorems ++ theorem ∷ [] → slice_set us place (record unit { theorems = theorems }) ≡ changed_at place (more_theorems theorem) us
theorem_pushed us place unit theorem theorems at is = ap (λ ts. slice_set us place (record unit { theorems = ts })) is ∙ set-changed (more_theorems theorem) us place unit at

pub theorems_kept : (us : List units.Unit) (place : ℕ) (unit : units.Unit) (theorems : List Theorem) → slice_get us place ≡ Some unit → theorems ≡ unit.theorems → slice_set us place (record unit { theorems = theorems }) ≡ us
theorems_kept us place unit theorems at is = ap (λ ts. slice_set us place (record unit { theorems = ts })) is ∙ set-same us place unit at

pub proof_pushed : (us : List units.Unit) (place : ℕ) (unit : units.Unit) (proof : Proof) (proofs : List Proof) → slice_get us place ≡ Some unit → proofs ≡ unit.proofs ++ proof ∷ [] → slice_set us place (record unit { proofs = proofs }) ≡ changed_at place (more_proofs proof) us
proof_pushed us place unit proof proofs at is = ap (λ ps. slice_set us place (record unit { proofs = ps })) is ∙ set-changed (more_proofs proof) us place unit at

pub proofs_kept : (us : List units.Unit) (place : ℕ) (unit : units.Unit) (proofs : List Proof) → slice_get us place ≡ Some unit → proofs ≡ unit.proofs → slice_set us place (record unit { proofs = proofs }) ≡ us
proofs_kept us place unit proofs at is = ap (λ ps. slice_set us place (record unit { proofs = ps })) is ∙ set-same us place unit at

-- another proof in its place, as the code sets it
pub other_set : (us : List units.Unit) (place at : ℕ) (unit : units.Unit) (proof : Proof) → slice_get us place ≡ Some unit → slice_set us place (record unit { proofs = slice_set unit.proofs at proof }) ≡ changed_at place (other_proof at proof) us
other_set us place at unit proof there = ap (λ ps. slice_set us place (record unit { proofs = ps })) (set-const unit.proofs at proof) ∙ set-changed (other_proof at proof) us place unit there

-- and the one that was there again
pub other_back : (us : List units.Unit) (place at : ℕ) (unit : units.Unit) (old new : Proof) → slice_get us place ≡ Some unit → slice_get unit.proofs at ≡ Some old → changed_at place (other_proof at old) (changed_at place (other_proof at new) us) ≡ us
other_back us place at unit old new there had =
    changed_back (other_proof at new) (other_proof at old) us place unit there (ap (λ ps. record unit { proofs = ps }) (changed_back (λ _. new) (λ _. old) unit.proofs at old had refl))

-- the unit at the place still has as many proofs
pub still_there : (us : List units.Unit) (place at : ℕ) (proof : Proof) → IsSomeAnd (slice_get us place) (λ (unit : units.Unit). at < length unit.proofs) → IsSomeAnd (slice_get (changed_at place (other_proof at proof) us) place) (λ (unit : units.Unit). at < length unit.proofs)
still_there [] place at proof there = there
still_there (u ∷ us) zero at proof there = rw length-changed there
still_there (u ∷ us) (suc place) at proof there = still_there us place at proof there
