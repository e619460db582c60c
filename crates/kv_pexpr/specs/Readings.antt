-- What holds of the readings of some tokens, and of the one that is found. Reads says what the tokens begin with.
use Rattle.std.specs.Prelude.{ℕ, ◌≡◌, ◌≤◌, List, length, drop, Result, Ok, Err}
use Rattle.kv_lex.specs.declared.token.Token.{Token}
use Rattle.kv_lex.specs.declared.token.TokenKind.{TokenKind}
use Rattle.kv_pexpr.specs.declared.errors.ReadError.{ReadError}
use Rattle.kv_pexpr.specs.declared.errors.ReadError.TheVariants.{Syntax, NoMemory}
use Rattle.kv_pexpr.specs.Gives.{kinds}

-- two readings that leave the same tokens behind them are one tree
abbrev pub OneTree : {P : Type 0} → (List TokenKind → P → List TokenKind → Type 0) → Type 0
OneTree {P} Reads = (ts us : List TokenKind) (p q : P) → Reads ts p us → Reads ts q us → p ≡ q

-- two readings behind which nothing can go on are one
abbrev pub OneReading : {P : Type 0} → (List TokenKind → P → List TokenKind → Type 0) → (List TokenKind → Type 0) → Type 0
OneReading {P} Reads Stops = (ts us vs : List TokenKind) (p q : P) → Reads ts p us → Reads ts q vs → Stops us → Stops vs → (p ≡ q) × (us ≡ vs)

-- no reading of the tokens at the place reaches further than the one that was found; where none was found, there is none
abbrev pub IsLongest : {X P : Type 0} → (List TokenKind → P → List TokenKind → Type 0) → List Token → ℕ → Result (X × ℕ) ReadError → Type 0
IsLongest {P = P} Reads tokens at (Ok found) = (p : P) (us : List TokenKind) → Reads (kinds (drop at tokens)) p us → length (drop found.1 tokens) ≤ length us
IsLongest {P = P} Reads tokens at (Err Syntax) = (p : P) (us : List TokenKind) → Reads (kinds (drop at tokens)) p us → ⊥
IsLongest {P = P} Reads tokens at (Err NoMemory) = Unit {0}

-- this tree was found, as plain data, and these tokens behind it, unless memory ran out
abbrev pub IsFound : {X P : Type 0} → (X → P) → List Token → P → List TokenKind → Result (X × ℕ) ReadError → Type 0
IsFound plain tokens p us (Ok found) = (plain found.0 ≡ p) × (kinds (drop found.1 tokens) ≡ us)
IsFound plain tokens p us (Err Syntax) = ⊥
IsFound plain tokens p us (Err NoMemory) = Unit {0}

-- a reading of the tokens at the place, behind which nothing can go on, is the one that was found
abbrev pub IsOnly : {X P : Type 0} → (X → P) → (List TokenKind → P → List TokenKind → Type 0) → (List TokenKind → Type 0) → List Token → ℕ → Result (X × ℕ) ReadError → Type 0
IsOnly {P = P} plain Reads Stops tokens at result = (p : P) (us : List TokenKind) → Reads (kinds (drop at tokens)) p us → Stops us → IsFound plain tokens p us result
