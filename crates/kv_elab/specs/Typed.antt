-- Values that stand where there is no fault.
use Rattle.std.specs.Prelude.{◌≡◌, Result, Ok, Err}
use Rattle.kv_elab.specs.Faults.{TypeFault}
use Rattle.kv_elab.specs.declared.errors.TypeError.{TypeError}
use Rattle.kv_elab.specs.declared.errors.TypeError.TheVariants as error

-- a value, or the first fault
abbrev pub Typed : Type 0 → Type 0
Typed A = Result A TypeFault

-- one part, and then what follows it
abbrev pub and_then : {A B : Type 0} → Typed A → (A → Typed B) → Typed B
and_then (Ok a) next = next a
and_then (Err e) next = Err e

-- two parts, the first one's fault first
abbrev pub both : {A B C : Type 0} → (A → B → C) → Typed A → Typed B → Typed C
both f a b = and_then a (λ x. and_then b (λ y. Ok (f x y)))

-- what a call answers, as `see` shows it: the value or the very fault, but for want of memory
abbrev pub Gives : {T S : Type 0} → (T → S) → Result T TypeError → Typed S → Type 0
Gives see (Ok x) typed = typed ≡ Ok (see x)
Gives see (Err error.NoMemory) typed = Unit {0}
Gives see (Err (error.Unknown name)) typed = typed ≡ Err (TypeFault.Unknown name)
Gives see (Err (error.Arity name)) typed = typed ≡ Err (TypeFault.Arity name)
Gives see (Err (error.Sort want got)) typed = typed ≡ Err (TypeFault.Sort want got)
Gives see (Err (error.Duplicate name)) typed = typed ≡ Err (TypeFault.Duplicate name)
Gives see (Err error.Program) typed = typed ≡ Err TypeFault.Program
