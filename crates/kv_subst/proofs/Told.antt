-- What is told of a value is told of the answer that is that value.
use Rattle.std.proofs.Common.{◌≡◌, sym, subst, IfOk}
use Rattle.std.specs.Prelude.{Result, Ok, Err}

pub told : {A E : Type 0} (P : A → Type 0) (r : Result A E) (value : A) → IfOk r (λ x. x ≡ value) → P value → IfOk r P
told P (Ok x) value e p = subst P (sym e) p
told P (Err x) value e p = e
