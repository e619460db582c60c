-- The tokens of the text of pieces.
use Rattle.std.proofs.Common.{ℕ, zero, suc, ◌≡◌, ◌<◌, List, [], ◌∷◌, ◌++◌, length, refl, ap, ◌∙◌, sym, arith, subst, length-append}
use Rattle.std.specs.Prelude.{true, false, if◌then◌else◌, nat_lt, ◌==◌, Some, Ok, Err}
use Rattle.std.proofs.Math.Seq.{take-length}
use Rattle.std.specs.Str.{chars, IsUtf8, IsAscii}
use Rattle.std.proofs.lemmas.Bool.Decides.{nat_tests}
use Rattle.std.proofs.lemmas.Str.{chars-nil, chars-append, IsUtf8-nil, IsUtf8-append, IsUtf8-from_ascii, utf8_valid_len-IsUtf8}
use Rattle.kv_lex.specs.Tokens.{is_blank, token_at, lexed_from, lexed, then_lexed, Lexed, faulty_end, place}
use Rattle.kv_lex.specs.declared.token.Token.{Token}
use Rattle.kv_lex.specs.declared.token.TokenKind.{TokenKind}
use Rattle.kv_session.proofs.Words.{ascii_first, ascii_none}
use Rattle.kv_pexpr.specs.Gives.{kinds}

-- tokens of these kinds
abbrev pub Gives : Lexed → List TokenKind → Type 0
Gives read ks = (ts : List Token) × (read ≡ Ok ts) × (kinds ts ≡ ks)

-- the text is UTF-8, and its tokens are of these kinds
pub record Lexes (text : List ℕ) (ks : List TokenKind) : Type 0 where
  pub utf8 : IsUtf8 text
  pub gives : (turns size : ℕ) → length (chars text) < turns → Gives (lexed_from turns size (chars text)) ks

-- ---- nothing, and a blank

no_tokens : (turns size : ℕ) (cs : List ℕ) → cs ≡ [] → 0 < turns → Gives (lexed_from turns size cs) []
unfolding lexed_from token_at
no_tokens zero size cs e some = absurd (omega arith)
no_tokens (suc turns) size cs e some = rw e ([], refl, refl)

pub lexes_nothing : Lexes [] []
lexes_nothing = record {
  utf8 = IsUtf8-nil;
  gives = λ turns size fits. no_tokens turns size (chars []) chars-nil (omega arith);
}

low_is : (b : ℕ) → b < 128 → nat_lt b 128 ≡ true
low_is b low = grind (arith, nat_tests)

-- an ASCII byte is a character
pub ascii_chars : (b : ℕ) (bs : List ℕ) → b < 128 → chars (b ∷ bs) ≡ b ∷ chars bs
unfolding chars
ascii_chars b [] low = rw (low_is b low)
ascii_chars b (c ∷ bs) low = rw (low_is b low)

one_ascii : (b : ℕ) → b < 128 → IsAscii (b ∷ [])
one_ascii b low = ascii_first b [] low ascii_none

skipped : (turns size : ℕ) (c : ℕ) (cs : List ℕ) → is_blank c ≡ true → lexed_from (suc turns) size (c ∷ cs) ≡ lexed_from (suc turns) size cs
unfolding lexed_from
skipped turns size c cs blank = rw blank

blank_tokens : (turns size b : ℕ) (cs : List ℕ) (ks : List TokenKind) → is_blank b ≡ true → length (b ∷ cs) < turns → Gives (lexed_from turns size cs) ks → Gives (lexed_from turns size (b ∷ cs)) ks
blank_tokens zero size b cs ks blank fits g = absurd (omega arith)
blank_tokens (suc turns) size b cs ks blank fits g = (g.0, skipped turns size b cs blank ∙ g.1, g.2)

pub lexes_blank : (b : ℕ) (text : List ℕ) (ks : List TokenKind) → b < 128 → is_blank b ≡ true → Lexes text ks → Lexes (b ∷ text) ks
lexes_blank b text ks low blank l = record {
  utf8 = IsUtf8-append (b ∷ []) text (IsUtf8-from_ascii (b ∷ []) (one_ascii b low)) l.utf8;
  gives = λ turns size fits.
      let e = ascii_chars b text low in
      let fits' : length (b ∷ chars text) < turns = omega (arith, ap length e) in
      subst (λ cs. Gives (lexed_from turns size cs) ks) (sym e) (blank_tokens turns size b (chars text) ks blank fits' (l.gives turns size (omega arith)));
}

-- ---- a token

-- neither a blank nor a comment begins there
pub record Begins (cs : List ℕ) : Type 0 where
  pub first : ℕ
  pub others : List ℕ
  pub is : cs ≡ first ∷ others
  pub no_blank : is_blank first ≡ false
  pub no_comment : (first == 37) ≡ false

ok_is : (read : Lexed) (ts us : List Token) → read ≡ Ok ts → read ≡ Ok us → ts ≡ us
ok_is read ts us e f = cc

then_gives : (token : Token) (read : Lexed) (ks : List TokenKind) → Gives read ks → Gives (then_lexed (token ∷ []) read) (token.kind ∷ ks)
then_gives token (Ok ts) ks g = (token ∷ ts, refl, ap (λ us. token.kind ∷ us) (ap kinds (ok_is (Ok ts) ts g.0 refl g.1) ∙ g.2))
then_gives token (Err at) ks g = absurd (let e = g.1 in cc)

token_first : (turns size : ℕ) (cs rest : List ℕ) (kind : TokenKind) → Begins cs → token_at (cs ++ rest) ≡ Some (kind, rest)
    → lexed_from (suc turns) size (cs ++ rest) ≡ then_lexed (record { kind = kind; from = place size (cs ++ rest); to = place size rest } ∷ []) (lexed_from turns size rest)
unfolding lexed_from
token_first turns size cs rest kind b e =
    let f = rw b.is at e in
    rw (b.is, b.no_blank, b.no_comment, f)

token_tokens : (turns size : ℕ) (cs rest : List ℕ) (kind : TokenKind) (ks : List TokenKind) → Begins cs → token_at (cs ++ rest) ≡ Some (kind, rest) → length (cs ++ rest) < turns
    → ((left : ℕ) → length rest < left → Gives (lexed_from left size rest) ks) → Gives (lexed_from turns size (cs ++ rest)) (kind ∷ ks)
token_tokens zero size cs rest kind ks b e fits more = absurd (omega arith)
token_tokens (suc turns) size cs rest kind ks b e fits more =
    rw (token_first turns size cs rest kind b e)
    (then_gives (record { kind = kind; from = place size (cs ++ rest); to = place size rest }) (lexed_from turns size rest) ks
    (more turns (omega (arith, ap length b.is, length-append cs rest))))

pub lexes_token : (w text : List ℕ) (kind : TokenKind) (ks : List TokenKind) → IsUtf8 w → Begins (chars w) → token_at (chars w ++ chars text) ≡ Some (kind, chars text) → Lexes text ks → Lexes (w ++ text) (kind ∷ ks)
lexes_token w text kind ks utf8 b e l = record {
  utf8 = IsUtf8-append w text utf8 l.utf8;
  gives = λ turns size fits.
      let same = chars-append w text utf8 in
      let fits' : length (chars w ++ chars text) < turns = omega (arith, ap length same) in
      subst (λ cs. Gives (lexed_from turns size cs) (kind ∷ ks)) (sym same)
      (token_tokens turns size (chars w) (chars text) kind ks b e fits' (λ left more. l.gives left size more));
}

-- ---- the whole text

pub if_same : (n : ℕ) (x y : Lexed) → (if n == n then x else y) ≡ x
if_same n x y = grind (arith, nat_tests)

no_fault : (n : ℕ) (read : Lexed) (ks : List TokenKind) → Gives read ks → Gives (faulty_end n n read) ks
no_fault n (Ok ts) ks g = (g.0, if_same n (Ok ts) (Err n) ∙ g.1, g.2)
no_fault n (Err at) ks g = g

pub lexes_whole : (text : List ℕ) (ks : List TokenKind) → Lexes text ks → Gives (lexed text) ks
unfolding lexed
lexes_whole text ks l =
    rw (utf8_valid_len-IsUtf8 text l.utf8, take-length text)
    (no_fault (length text) (lexed_from (suc (length (chars text))) (length text) (chars text)) ks (l.gives (suc (length (chars text))) (length text) (omega arith)))
