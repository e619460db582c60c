-- Marks that stand at the front of a text.
use Rattle.std.proofs.Common.{ℕ, ◌≡◌, ◌≤◌, ◌<◌, List, [], ◌∷◌, ◌++◌, length, refl, ◌∙◌, arith}
use Rattle.std.specs.Prelude.{false, Some, None}
use Rattle.std.specs.Char.{is_ascii_digit, is_ascii_alphabetic, encode_utf8}
use Rattle.std.proofs.lemmas.Str.{length-encode, len_utf8_bounds, encode_ascii}
use Rattle.unicode_ident.proofs.IdentLemmas.{is_xid_start-ascii}
use Rattle.kv_table.specs.Names.{row_of}
use Rattle.kv_lex.specs.declared.token.TokenKind.TheVariants.{Mark}
use Rattle.kv_lex.specs.Marks.{OPEN, CLOSE, OPEN_BRACE, CLOSE_BRACE, COMMA, SEMICOLON, COLON, DOT, EQUAL, ARROW, DOUBLE_ARROW, BAR}
use Rattle.kv_lex.specs.Marks.{mark_rows}
use Rattle.kv_lex.specs.Tokens.{token_at, mark}

some_byte : (bytes : List ℕ) → 1 ≤ length bytes → (b : ℕ) × (bs : List ℕ) × (bytes ≡ b ∷ bs)
some_byte [] some = absurd (omega arith)
some_byte (b ∷ bs) some = (b, bs, refl)

-- a character has a byte at least
first_byte : (c : ℕ) → (b : ℕ) × (bs : List ℕ) × (encode_utf8 c ≡ b ∷ bs)
first_byte c = some_byte (encode_utf8 c) (omega (arith, length-encode c, len_utf8_bounds c))

-- a mark of one character, which begins no longer mark
single_mark : (c row : ℕ) → c < 128 → row_of mark_rows (c ∷ []) ≡ Some row → ((b : ℕ) (bs : List ℕ) → row_of mark_rows (c ∷ b ∷ bs) ≡ None)
    → (rest : List ℕ) → mark (c ∷ rest) ≡ Some (Mark row, rest)
single_mark c row low here longer [] = rw (encode_ascii c low, here)
single_mark c row low here longer (d ∷ []) = let b = first_byte d in rw (encode_ascii c low, b.2, longer b.0 (b.1 ++ []), here)
single_mark c row low here longer (d ∷ e ∷ rest) =
    let b = first_byte d in
    rw (encode_ascii c low, b.2, longer b.0 (b.1 ++ (encode_utf8 e ++ [])), longer b.0 (b.1 ++ []), here)

single_token : (c row : ℕ) (rest : List ℕ) → c < 128 → is_ascii_alphabetic c ≡ false → is_ascii_digit c ≡ false → row_of mark_rows (c ∷ []) ≡ Some row
    → ((b : ℕ) (bs : List ℕ) → row_of mark_rows (c ∷ b ∷ bs) ≡ None) → token_at (c ∷ rest) ≡ Some (Mark row, rest)
unfolding token_at
single_token c row rest low letter digit here longer = rw (is_xid_start-ascii c low ∙ letter, digit) (single_mark c row low here longer rest)

pub open_token : (rest : List ℕ) → token_at (40 ∷ rest) ≡ Some (Mark OPEN, rest)
unfolding mark_rows
open_token rest = single_token 40 OPEN rest (omega arith) refl refl refl (λ b bs. refl)

pub close_token : (rest : List ℕ) → token_at (41 ∷ rest) ≡ Some (Mark CLOSE, rest)
unfolding mark_rows
close_token rest = single_token 41 CLOSE rest (omega arith) refl refl refl (λ b bs. refl)

pub open_brace_token : (rest : List ℕ) → token_at (123 ∷ rest) ≡ Some (Mark OPEN_BRACE, rest)
unfolding mark_rows
open_brace_token rest = single_token 123 OPEN_BRACE rest (omega arith) refl refl refl (λ b bs. refl)

pub close_brace_token : (rest : List ℕ) → token_at (125 ∷ rest) ≡ Some (Mark CLOSE_BRACE, rest)
unfolding mark_rows
close_brace_token rest = single_token 125 CLOSE_BRACE rest (omega arith) refl refl refl (λ b bs. refl)

pub semicolon_token : (rest : List ℕ) → token_at (59 ∷ rest) ≡ Some (Mark SEMICOLON, rest)
unfolding mark_rows
semicolon_token rest = single_token 59 SEMICOLON rest (omega arith) refl refl refl (λ b bs. refl)

pub dot_token : (rest : List ℕ) → token_at (46 ∷ rest) ≡ Some (Mark DOT, rest)
unfolding mark_rows
dot_token rest = single_token 46 DOT rest (omega arith) refl refl refl (λ b bs. refl)

pub bar_token : (rest : List ℕ) → token_at (124 ∷ rest) ≡ Some (Mark BAR, rest)
unfolding mark_rows
bar_token rest = single_token 124 BAR rest (omega arith) refl refl refl (λ b bs. refl)

pub comma_token : (rest : List ℕ) → token_at (44 ∷ rest) ≡ Some (Mark COMMA, rest)
unfolding mark_rows
comma_token rest = single_token 44 COMMA rest (omega arith) refl refl refl (λ b bs. refl)

-- an arrow
arrow_mark : (rest : List ℕ) → mark (45 ∷ 62 ∷ rest) ≡ Some (Mark ARROW, rest)
unfolding mark_rows
arrow_mark [] = rw (encode_ascii 45 (omega arith), encode_ascii 62 (omega arith))
arrow_mark (d ∷ rest) = let b = first_byte d in rw (encode_ascii 45 (omega arith), encode_ascii 62 (omega arith), b.2)

pub arrow_token : (rest : List ℕ) → token_at (45 ∷ 62 ∷ rest) ≡ Some (Mark ARROW, rest)
unfolding token_at
arrow_token rest = rw (is_xid_start-ascii 45 (omega arith)) (arrow_mark rest)

-- an arrow both ways
double_arrow_mark : (rest : List ℕ) → mark (60 ∷ 45 ∷ 62 ∷ rest) ≡ Some (Mark DOUBLE_ARROW, rest)
unfolding mark_rows
double_arrow_mark rest = rw (encode_ascii 60 (omega arith), encode_ascii 45 (omega arith), encode_ascii 62 (omega arith))

pub double_arrow_token : (rest : List ℕ) → token_at (60 ∷ 45 ∷ 62 ∷ rest) ≡ Some (Mark DOUBLE_ARROW, rest)
unfolding token_at
double_arrow_token rest = rw (is_xid_start-ascii 60 (omega arith)) (double_arrow_mark rest)

-- a colon and an equals sign with a space behind them
spaced_mark : (c row : ℕ) (rest : List ℕ) → c < 128 → row_of mark_rows (c ∷ []) ≡ Some row → ((bs : List ℕ) → row_of mark_rows (c ∷ 32 ∷ bs) ≡ None)
    → mark (c ∷ 32 ∷ rest) ≡ Some (Mark row, 32 ∷ rest)
spaced_mark c row [] low here longer = rw (encode_ascii c low, encode_ascii 32 (omega arith), longer [], here)
spaced_mark c row (d ∷ rest) low here longer = rw (encode_ascii c low, encode_ascii 32 (omega arith), longer (encode_utf8 d ++ []), longer [], here)

spaced_token : (c row : ℕ) (rest : List ℕ) → c < 128 → is_ascii_alphabetic c ≡ false → is_ascii_digit c ≡ false → row_of mark_rows (c ∷ []) ≡ Some row
    → ((bs : List ℕ) → row_of mark_rows (c ∷ 32 ∷ bs) ≡ None) → token_at (c ∷ 32 ∷ rest) ≡ Some (Mark row, 32 ∷ rest)
unfolding token_at
spaced_token c row rest low letter digit here longer = rw (is_xid_start-ascii c low ∙ letter, digit) (spaced_mark c row rest low here longer)

pub colon_token : (rest : List ℕ) → token_at (58 ∷ 32 ∷ rest) ≡ Some (Mark COLON, 32 ∷ rest)
unfolding mark_rows
colon_token rest = spaced_token 58 COLON rest (omega arith) refl refl refl (λ bs. refl)

pub equal_token : (rest : List ℕ) → token_at (61 ∷ 32 ∷ rest) ≡ Some (Mark EQUAL, 32 ∷ rest)
unfolding mark_rows
equal_token rest = spaced_token 61 EQUAL rest (omega arith) refl refl refl (λ bs. refl)
