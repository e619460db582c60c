-- A function value that reads with this much fuel.
use Rattle.std.specs.Prelude.{ℕ, ◌<◌, Result, List}
use Rattle.std.specs.declared.alloc.Global.{Global}
use Rattle.std.specs.Borrow.{Bor}
use Rattle.kv_lex.specs.declared.token.Token.{Token}
use Rattle.kv_raw.specs.declared.raws.RawForm.{RawForm}
use Rattle.kv_pexpr.specs.declared.errors.ReadError.{ReadError}
use Rattle.kv_pexpr.specs.declared.found.Found.{Found}
use Rattle.kv_pexpr.specs.declared.levels.Level.{Level}
use Rattle.kv_pexpr.specs.Gives.{kinds, seen, Gives, IsHigh}
use Rattle.kv_pexpr.specs.Parse.{read}

pub record Nests (fuel : ℕ) (pre : Global → Bor (List Token) → ℕ → Level → ℕ → ℕ → Type 0)
    (post : Global → Bor (List Token) → ℕ → Level → ℕ → ℕ → Result (Found RawForm) ReadError → Type 0) : Type 0 where
  pub callable : (alloc : Global) (tokens : Bor (List Token)) (l : Level) (d h : ℕ) → h < 1000 → pre alloc tokens fuel l d h
  pub reads : (alloc : Global) (tokens : Bor (List Token)) (l : Level) (d h : ℕ) (r : Result (Found RawForm) ReadError) → post alloc tokens fuel l d h r
      → Gives seen r (read fuel l d h (kinds tokens.now)) × IsHigh h r
