-- One turn of the recursion.
use Rattle.std.proofs.Common.{◌≡◌, ℕ, suc, ◌-◌, ◌<◌, ap, ◌∙◌, arith, List}
use Rattle.std.specs.Prelude.{None}
use Rattle.kv_lex.specs.declared.token.TokenKind.{TokenKind}
use Rattle.kv_pexpr.specs.declared.levels.Level.{Level}
use Rattle.kv_pexpr.specs.Parse.{read, rule}

pub read_none : (n : ℕ) (l : Level) (d h : ℕ) (ts : List TokenKind) → n ≡ 0 → read n l d h ts ≡ None
unfolding read
read_none n l d h ts e = ap (λ k. read k l d h ts) e

pub read_step : (n : ℕ) (l : Level) (d h : ℕ) (ts : List TokenKind) → 0 < n → read n l d h ts ≡ rule (read (n - 1)) l d h ts
unfolding read
read_step n l d h ts some = let e : n ≡ suc (n - 1) = omega arith in ap (λ k. read k l d h ts) e

pub read_at : (n : ℕ) (l m : Level) (d h : ℕ) (ts : List TokenKind) → 0 < n → l ≡ m → read n l d h ts ≡ rule (read (n - 1)) m d h ts
read_at n l m d h ts some e = read_step n l d h ts some ∙ ap (λ k. rule (read (n - 1)) k d h ts) e
