-- What a text is: gaps and tokens, one after another. Each relation says what the characters `cs` begin with, and last
-- which characters stand behind that.
use Rattle.std.specs.Prelude.{ℕ, ◌≡◌, ◌≢◌, ◌≤◌, ◌<◌, ◌-◌, Bool, true, false, not, ◌||◌, ◌==◌, List, [], ◌∷◌, ◌++◌, length, take, Some, Result, Ok, Err, slice_get}
use Rattle.std.specs.List.{list_all}
use Rattle.std.specs.Str.{encode_utf8_all}
use Rattle.std.specs.Str.Lossy.{utf8_valid_len}
use Rattle.std.specs.Str.Parse.{digits_value}
use Rattle.std.specs.Char.{is_ascii_digit}
use Rattle.unicode_ident.specs.Ident.{is_xid_start, is_xid_continue}
use Rattle.kv_table.specs.Keywords.{keyword_rows}
use Rattle.kv_lex.specs.declared.token.Token.{Token}
use Rattle.kv_lex.specs.declared.token.TokenKind.{TokenKind}
use Rattle.kv_lex.specs.declared.token.TokenKind.TheVariants.{Word, Ident, Number, Mark}
use Rattle.kv_lex.specs.Marks.{mark_rows}

-- ---- runs

-- there is a first character, and it passes
abbrev pub begins : (ℕ → Bool) → List ℕ → Bool
begins passes [] = false
begins passes (c ∷ cs) = passes c

-- all the characters that pass, up to the first one that doesn't
pub record IsRun (passes : ℕ → Bool) (cs run rest : List ℕ) : Type 0 where
  pub split : cs ≡ run ++ rest
  pub pass : list_all passes run ≡ true
  pub ends : begins passes rest ≡ false

-- ---- gaps

-- a space, a tab, a carriage return or a line feed
abbrev pub is_blank : ℕ → Bool
is_blank c = c == 32 || c == 9 || c == 13 || c == 10

-- a gap is all the blanks and comments up to what is neither; a comment is a percent sign and all up to the next line
-- feed, or to the end
pub data IsGap : List ℕ → List ℕ → Type 0 where
  none : {cs : List ℕ} → begins (λ c. is_blank c || c == 37) cs ≡ false → IsGap cs cs
  blank : {c : ℕ} {cs rest : List ℕ} → is_blank c ≡ true → IsGap cs rest → IsGap (c ∷ cs) rest
  comment : {cs inside after rest : List ℕ} → IsRun (λ c. not (c == 10)) cs inside after → IsGap after rest → IsGap (37 ∷ cs) rest

-- ---- tokens

-- a word begins like a name and goes on as far as a name may
abbrev pub IsWord : List ℕ → List ℕ → List ℕ → Type 0
IsWord cs word rest = (begins is_xid_start cs ≡ true) × IsRun is_xid_continue cs word rest

-- the characters are the mark of this row
abbrev pub IsMark : List ℕ → ℕ → Type 0
IsMark mark row = slice_get mark_rows row ≡ Some (encode_utf8_all mark)

-- a word is a keyword, or a name where it has at most 64 bytes; 1 to 9 digits, up to what is no digit, are a number; a
-- mark is the longest one that stands there
abbrev pub IsToken : List ℕ → TokenKind → List ℕ → Type 0
IsToken cs (Word row) rest = (word : List ℕ) × IsWord cs word rest × (slice_get keyword_rows row ≡ Some (encode_utf8_all word))
IsToken cs (Ident name) rest =
    (word : List ℕ) × IsWord cs word rest × (encode_utf8_all word ≡ name) × (length name ≤ 64) × ((row : ℕ) → slice_get keyword_rows row ≢ Some name)
IsToken cs (Number value) rest = (digits : List ℕ) × IsRun is_ascii_digit cs digits rest × (1 ≤ length digits) × (length digits ≤ 9) × (digits_value 10 digits ≡ value)
IsToken cs (Mark row) rest =
    (mark : List ℕ) × (cs ≡ mark ++ rest) × IsMark mark row
    × ((other behind : List ℕ) (kind : ℕ) → cs ≡ other ++ behind → IsMark other kind → length other ≤ length mark)

abbrev pub NoToken : List ℕ → Type 0
NoToken cs = (kind : TokenKind) (rest : List ℕ) → IsToken cs kind rest → ⊥

-- ---- texts

-- the byte at which the rest of a text of `size` bytes begins
abbrev pub place : ℕ → List ℕ → ℕ
place size rest = size - length (encode_utf8_all rest)

-- these tokens one after another, a gap before each; a token tells the bytes at which it begins and ends
abbrev pub AreTokens : ℕ → List ℕ → List Token → List ℕ → Type 0
AreTokens size cs [] rest = cs ≡ rest
AreTokens size cs (t ∷ ts) rest =
    (here after : List ℕ) × IsGap cs here × IsToken here t.kind after × (t.from ≡ place size here) × (t.to ≡ place size after) × AreTokens size after ts rest

-- gaps and these tokens fill the text up to the byte `at`, where the characters `here` follow, which are all up to the
-- first byte that isn't UTF-8
pub record Fill (text : List ℕ) (tokens : List Token) (at : ℕ) (here : List ℕ) : Type 0 where
  pub characters : List ℕ
  pub utf8 : encode_utf8_all characters ≡ take (utf8_valid_len text) text
  pub last : List ℕ
  pub tokens_are : AreTokens (utf8_valid_len text) characters tokens last
  pub gap : IsGap last here
  pub at_is : place (utf8_valid_len text) here ≡ at

-- the tokens, or the byte of the first fault
abbrev pub Lexed : Type 0
Lexed = Result (List Token) ℕ

-- a text has these tokens, and nothing else but gaps; or its first fault is at this byte, where no token reads and yet the
-- text doesn't end
abbrev pub IsLexed : List ℕ → Lexed → Type 0
IsLexed text (Ok tokens) = Fill text tokens (length text) []
IsLexed text (Err at) = (tokens : List Token) × (here : List ℕ) × Fill text tokens at here × NoToken here × (at < length text)
