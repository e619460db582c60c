-- What stands behind a value that typing answers.
use Rattle.std.proofs.Common.{◌≡◌, Bool, true, false, cond, ◌&&◌, Some, Result, Ok, Err, IfOk, refl, subst}
use Rattle.kv_elab.specs.Faults.{TypeFault}
use Rattle.kv_elab.specs.declared.errors.TypeError.{TypeError}
use Rattle.kv_elab.specs.Typed.{Typed, and_then, both, Gives}

abbrev pub Answers : {A : Type 0} → Typed A → A → Type 0
Answers typed x = typed ≡ Ok x

pub from_some : {A : Type 0} (x y : A) → Some x ≡ Some y → x ≡ y
from_some x y e = cc

pub from_ok : {A : Type 0} (x y : A) → Answers (Ok x) y → x ≡ y
from_ok x y e = cc

pub no_fault : {A : Type 0} (fault : TypeFault) (x : A) → Answers (Err fault) x → ⊥
no_fault fault x e = cc

-- the first part's value, with which the rest goes on
pub from_then : {A B : Type 0} (P : B → Type 0) (a : Typed A) (next : A → Typed B) (y : B) → Answers (and_then a next) y →
    ((x : A) → Answers a x → Answers (next x) y → P y) → P y
from_then P (Ok x) next y e k = k x refl e
from_then P (Err fault) next y e k = absurd (no_fault fault y e)

-- the values of both parts
pub from_both : {A B C : Type 0} (P : C → Type 0) (f : A → B → C) (a : Typed A) (b : Typed B) (z : C) → Answers (both f a b) z →
    ((x : A) (y : B) → Answers a x → Answers b y → P (f x y)) → P z
from_both P f (Ok x) (Ok y) z e k = subst P (from_ok (f x y) z e) (k x y refl refl)
from_both P f (Ok x) (Err fault) z e k = absurd (no_fault fault z e)
from_both P f (Err fault) b z e k = absurd (no_fault fault z e)

-- a value that goes through `f`
pub from_one : {A B : Type 0} (P : B → Type 0) (f : A → B) (a : Typed A) (y : B) → Answers (and_then a (λ x. Ok (f x))) y →
    ((x : A) → Answers a x → P (f x)) → P y
from_one P f (Ok x) y e k = subst P (from_ok (f x) y e) (k x refl)
from_one P f (Err fault) y e k = absurd (no_fault fault y e)

-- what stands after a test that has to hold
pub from_if : {A : Type 0} (test : Bool) (typed : Typed A) (fault : TypeFault) (x : A) → Answers (cond test typed (Err fault)) x → (test ≡ true) × Answers typed x
from_if true typed fault x e = (refl, e)
from_if false typed fault x e = absurd (no_fault fault x e)

-- what stands after a test that has to fail
pub from_unless : {A : Type 0} (test : Bool) (typed : Typed A) (fault : TypeFault) (x : A) → Answers (cond test (Err fault) typed) x → (test ≡ false) × Answers typed x
from_unless true typed fault x e = absurd (no_fault fault x e)
from_unless false typed fault x e = (refl, e)

-- what holds of the value that is typed holds of what the call answers
pub told : {T S : Type 0} (see : T → S) (P : S → Type 0) (result : Result T TypeError) (typed : Typed S) → Gives see result typed →
    ((x : S) → Answers typed x → P x) → IfOk result (λ x. P (see x))
told see P (Ok x) typed e k = k (see x) e
told see P (Err fault) typed e k = tt

pub both_true : (a b : Bool) → (a && b) ≡ true → (a ≡ true) × (b ≡ true)
both_true true b e = (refl, e)
both_true false b e = cc
