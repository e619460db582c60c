-- A function value that reads a script with at most so many steps on a path.
use Rattle.std.specs.Prelude.{ℕ, Result, List}
use Rattle.std.specs.declared.alloc.Global.{Global}
use Rattle.std.specs.Borrow.{Bor}
use Rattle.kv_lex.specs.declared.token.Token.{Token}
use Rattle.kv_syn.specs.declared.scripts.Script.{Script}
use Rattle.kv_syn.specs.ScriptBridge.{plain_script}
use Rattle.kv_pexpr.specs.declared.errors.ReadError.{ReadError}
use Rattle.kv_pexpr.specs.Gives.{kinds, Gives}
use Rattle.kv_punit.specs.Gives.{seen}
use Rattle.kv_punit.specs.Parse.{script}

pub record Nests (most : ℕ) (pre : Global → Bor (List Token) → ℕ → Type 0)
    (post : Global → Bor (List Token) → ℕ → Result (Script × Bor (List Token)) ReadError → Type 0) : Type 0 where
  pub callable : (alloc : Global) (tokens : Bor (List Token)) → pre alloc tokens most
  pub reads : (alloc : Global) (tokens : Bor (List Token)) (r : Result (Script × Bor (List Token)) ReadError) → post alloc tokens most r
      → Gives (seen plain_script) r (script most (kinds tokens.now))
