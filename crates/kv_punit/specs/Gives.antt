-- What a reader ensures.
use Rattle.std.specs.Prelude.{◌≡◌, List, Result, Ok, Err}
use Rattle.std.specs.Borrow.{Bor}
use Rattle.kv_lex.specs.declared.token.Token.{Token}
use Rattle.kv_lex.specs.declared.token.TokenKind.{TokenKind}
use Rattle.kv_pexpr.specs.declared.errors.ReadError.{ReadError}
use Rattle.kv_pexpr.specs.declared.errors.ReadError.TheVariants.{Syntax, NoMemory}
use Rattle.kv_pexpr.specs.Gives.{kinds}

-- what was read, as plain data, with the kinds of the tokens behind it
abbrev pub seen : {X A : Type 0} → (X → A) → X × Bor (List Token) → A × List TokenKind
seen plain found = (plain found.0, kinds found.1.now)

-- that is what was read, unless memory ran out
abbrev pub IsThat : {X Y : Type 0} → (X → Y) → Result X ReadError → Y → Type 0
IsThat view (Ok x) read = view x ≡ read
IsThat view (Err Syntax) read = ⊥
IsThat view (Err NoMemory) read = Unit {0}

-- a thing of that kind was found, or there is none, unless memory ran out
abbrev pub Finds : {X Y : Type 0} → (X → Y) → (Y → Type 0) → Result X ReadError → Type 0
Finds view Is (Ok x) = Is (view x)
Finds {Y = Y} view Is (Err Syntax) = (y : Y) → Is y → ⊥
Finds view Is (Err NoMemory) = Unit {0}
