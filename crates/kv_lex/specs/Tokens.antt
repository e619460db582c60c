-- The tokens of a text, as the code's parts give them. That this is what the text is (Texts) is a law.
use Rattle.std.specs.Prelude.{ℕ, zero, suc, Bool, if◌then◌else◌, ◌==◌, nat_le, List, [], ◌∷◌, ◌++◌, length, take, drop, Option, Some, None, Result, Ok, Err, ◌≡◌}
use Rattle.std.specs.Option.{option_map}
use Rattle.std.specs.Str.{chars, encode_utf8_all}
use Rattle.std.specs.Str.Lossy.{utf8_valid_len}
use Rattle.std.specs.Str.Parse.{digits_value}
use Rattle.std.specs.Char.{is_ascii_digit}
use Rattle.unicode_ident.specs.Ident.{is_xid_start, is_xid_continue}
use Rattle.kv_table.specs.Names.{row_of}
use Rattle.kv_table.specs.Keywords.{keyword_rows}
use Rattle.kv_lex.specs.declared.token.Token.{Token}
use Rattle.kv_lex.specs.declared.token.TokenKind.{TokenKind}
use Rattle.kv_lex.specs.declared.token.TokenKind.TheVariants.{Word, Ident, Number, Mark}
use Rattle.kv_lex.specs.declared.token.LexError.{LexError}
use Rattle.kv_lex.specs.declared.token.LexError.TheVariants.{Token as Fault, NoMemory}
use Rattle.kv_lex.specs.Marks.{mark_rows}
pub use Rattle.kv_lex.specs.Texts.{is_blank, place, Lexed}

-- the longest front whose characters pass, and what follows it
abbrev pub run : (ℕ → Bool) → List ℕ → List ℕ
run passes [] = []
run passes (c ∷ cs) = if passes c then c ∷ run passes cs else []

abbrev pub past : (ℕ → Bool) → List ℕ → List ℕ
past passes [] = []
past passes (c ∷ cs) = if passes c then past passes cs else c ∷ cs

-- the text without the blanks and comments at its front; a comment goes from a percent sign to the next line feed
abbrev mutual
  pub skip : List ℕ → List ℕ
  skip [] = []
  skip (c ∷ cs) = if is_blank c then skip cs else (if c == 37 then skip_comment cs else c ∷ cs)

  pub skip_comment : List ℕ → List ℕ
  skip_comment [] = []
  skip_comment (c ∷ cs) = if c == 10 then skip cs else skip_comment cs

-- the greatest number of bytes of a name, and of digits of a number
abbrev pub max_name : ℕ
max_name = 64

abbrev pub max_digits : ℕ
max_digits = 9

-- a run that begins like a name is a keyword, or a name that isn't too long
abbrev pub word_or_name : Option ℕ → List ℕ → Option TokenKind
word_or_name (Some row) text = Some (Word row)
word_or_name None text = if nat_le (length text) max_name then Some (Ident text) else None

abbrev pub word : List ℕ → Option TokenKind
word text = word_or_name (row_of keyword_rows text) text

-- a run of digits is a number, where it isn't too long
abbrev pub number : List ℕ → Option TokenKind
number text = if nat_le (length text) max_digits then Some (Number (digits_value 10 text)) else None

-- a kind of token, where there is one, with the characters behind the token
abbrev pub with_rest : List ℕ → Option TokenKind → Option (TokenKind × List ℕ)
with_rest rest kind = option_map (λ k. (k, rest)) kind

abbrev pub or_next : {A : Type 0} → Option A → Option A → Option A
or_next (Some x) next = Some x
or_next None next = next

-- the mark that the first n characters are
abbrev pub mark_of : ℕ → List ℕ → Option (TokenKind × List ℕ)
mark_of n cs = with_rest (drop n cs) (option_map Mark (row_of mark_rows (encode_utf8_all (take n cs))))

-- the longest mark at the front
abbrev pub mark : List ℕ → Option (TokenKind × List ℕ)
mark cs = or_next (mark_of 3 cs) (or_next (mark_of 2 cs) (mark_of 1 cs))

-- the token at the front, with the characters behind it
unfoldable pub token_at : List ℕ → Option (TokenKind × List ℕ)
token_at [] = None
token_at (c ∷ cs) =
    if is_xid_start c then with_rest (past is_xid_continue cs) (word (encode_utf8_all (c ∷ run is_xid_continue cs)))
    else (if is_ascii_digit c then with_rest (past is_ascii_digit cs) (number (encode_utf8_all (c ∷ run is_ascii_digit cs)))
    else mark (c ∷ cs))

-- tokens, and behind them the others or the fault
abbrev pub then_lexed : List Token → Lexed → Lexed
then_lexed tokens (Ok more) = Ok (tokens ++ more)
then_lexed tokens (Err place) = Err place

-- where no token reads there is a fault, unless nothing is left
abbrev pub step : (List ℕ → Lexed) → ℕ → List ℕ → Option (TokenKind × List ℕ) → Lexed
step more size [] read = Ok []
step more size (c ∷ cs) None = Err (place size (c ∷ cs))
step more size (c ∷ cs) (Some t) = then_lexed (record { kind = t.0; from = place size (c ∷ cs); to = place size t.1 } ∷ []) (more t.1)

-- the tokens of the rest of a text of `size` bytes; the first number bounds the turns
unfoldable pub lexed_from : ℕ → ℕ → List ℕ → Lexed
lexed_from zero size cs = Ok []
lexed_from (suc turns) size cs = step (lexed_from turns size) size (skip cs) (token_at (skip cs))

-- a text of which only the first `valid` bytes are UTF-8 has a fault there, unless one stands before
abbrev pub faulty_end : ℕ → ℕ → Lexed → Lexed
faulty_end valid size (Ok tokens) = if valid == size then Ok tokens else Err valid
faulty_end valid size (Err place) = Err place

-- the tokens of the bytes of a text, or the byte of its first fault
unfoldable pub lexed : List ℕ → Lexed
lexed text =
    let valid = utf8_valid_len text in
    let cs = chars (take valid text) in
    faulty_end valid (length text) (lexed_from (suc (length cs)) valid cs)

-- what a reading answers: the tokens, or the byte of the first fault; want of memory says nothing of the text
abbrev pub Gives : Result (List Token) LexError → Lexed → Type 0
Gives (Ok tokens) read = read ≡ Ok tokens
Gives (Err (Fault at)) read = read ≡ Err at
Gives (Err NoMemory) read = Unit {0}
