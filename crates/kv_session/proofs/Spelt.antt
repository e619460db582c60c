-- The text of pieces that fit one another has the tokens of the pieces.
use Rattle.std.proofs.Common.{ℕ, ◌≡◌, ◌≤◌, ◌<◌, List, [], ◌∷◌, ◌++◌, length, refl, ap, ◌∙◌, sym, arith, inl, inr, append_assoc}
use Rattle.std.specs.Prelude.{true, false, ◌||◌, ◌==◌, nat_le, Option, Some, None, unwrap_or, decimal, ◌⊎◌}
use Rattle.std.specs.Char.{is_ascii_digit, is_ascii_alphanumeric}
use Rattle.std.specs.Str.{chars, all_ascii_digits, IsAscii}
use Rattle.std.proofs.lemmas.Bool.{cases_lt}
use Rattle.std.proofs.lemmas.Bool.Decides.{nat_tests}
use Rattle.std.proofs.lemmas.Str.{chars-nil, chars-IsAscii, IsUtf8-from_ascii}
use Rattle.unicode_ident.specs.Ident.{is_xid_start, is_xid_continue}
use Rattle.unicode_ident.proofs.IdentLemmas.{is_xid_start-ascii, is_xid_continue-ascii}
use Rattle.kv_lex.specs.Marks.{mark_rows}
use Rattle.kv_lex.specs.Tokens.{token_at, is_blank, word, word_or_name}
use Rattle.kv_lex.specs.Marks.{OPEN, CLOSE, OPEN_BRACE, CLOSE_BRACE, COMMA, SEMICOLON, COLON, DOT, EQUAL, ARROW, DOUBLE_ARROW, BAR}
use Rattle.kv_lex.specs.declared.token.TokenKind.{TokenKind}
use Rattle.kv_lex.specs.declared.token.TokenKind.TheVariants.{Word, Ident, Number, Mark}
use Rattle.kv_print.specs.Pieces.{Piece, spell}
use Rattle.kv_session.specs.Spellable.{IsName, IsLabel, IsNumber}
use Rattle.kv_session.specs.Spellable as s
use Rattle.kv_session.proofs.Tokens.{before, label_kinds, word_kinds, Fits, AreFit, Ends, Spaced, IsClosed, IsLoose}
use Rattle.kv_session.proofs.Tokens as k
use Rattle.kv_session.proofs.Lexes.{Lexes, Begins, lexes_nothing, lexes_blank, lexes_token, ascii_chars}
use Rattle.kv_session.proofs.Marks as m
use Rattle.kv_session.proofs.Runs.{Stops}
use Rattle.kv_session.proofs.Words.{is_word, both, IsRun, word_ascii, word_run, word_token, name_run, name_token, number_token, number_ascii, number_some, number_digits, ascii_first, ascii_none}
use Rattle.kv_session.proofs.Labels.{no_dot, name_alone, name_first}
use Rattle.kv_names.specs.Names.{Name}
use Rattle.kv_table.specs.Names.{row_of}
use Rattle.kv_table.specs.Keywords.{keyword_rows}

-- ---- where a word or a number ends

pub record Stop (text : List ℕ) : Type 0 where
  pub name : Stops is_xid_continue (chars text)
  pub number : Stops is_ascii_digit (chars text)

stop_end : Stop []
stop_end = record { name = rw chars-nil; number = rw chars-nil }

stop_at : (b : ℕ) (text : List ℕ) → b < 128 → (is_ascii_alphanumeric b || (b == 95)) ≡ false → is_ascii_digit b ≡ false → Stop (b ∷ text)
stop_at b text low name number = record {
  name = rw (ascii_chars b text low, is_xid_continue-ascii b low, name);
  number = rw (ascii_chars b text low, number);
}

sign_stops : (sign : List ℕ) (text : List ℕ) → IsClosed sign → Stop (sign ++ text)
sign_stops _ text k.bracket = stop_at 40 text (omega arith) refl refl
sign_stops _ text k.end_bracket = stop_at 41 text (omega arith) refl refl
sign_stops _ text k.brace = stop_at 123 text (omega arith) refl refl
sign_stops _ text k.end_brace = stop_at 125 text (omega arith) refl refl
sign_stops _ text k.semicolon = stop_at 59 text (omega arith) refl refl
sign_stops _ text k.bar = stop_at 124 text (omega arith) refl refl
sign_stops _ text k.comma = stop_at 44 text (omega arith) refl refl
sign_stops _ text k.dot = stop_at 46 text (omega arith) refl refl
sign_stops _ text k.arrow = stop_at 45 (62 ∷ text) (omega arith) refl refl
sign_stops _ text k.double_arrow = stop_at 60 (45 ∷ 62 ∷ text) (omega arith) refl refl

ends_stop : (ps : List Piece) → Ends ps → Stop (spell ps)
ends_stop [] e = stop_end
ends_stop (Piece.Space ∷ ps) e = stop_at 32 (spell ps) (omega arith) refl refl
ends_stop (Piece.Break ∷ ps) e = stop_at 10 (spell ps) (omega arith) refl refl
ends_stop (Piece.Word letters ∷ ps) e = absurd e
ends_stop (Piece.Ident name ∷ ps) e = absurd e
ends_stop (Piece.Number value ∷ ps) e = absurd e
ends_stop (Piece.Label label ∷ ps) e = absurd e
ends_stop (Piece.Mark sign ∷ ps) e = sign_stops sign (spell ps) e

-- ---- one piece

start_no_blank : (c : ℕ) → is_xid_start c ≡ true → is_blank c ≡ false
start_no_blank c e = elim (cases_lt c 128) [
  | inl low ↦ (let f = sym (is_xid_start-ascii c low) ∙ e in grind (arith, nat_tests))
  | inr high ↦ grind (arith, nat_tests)
]

start_no_comment : (c : ℕ) → is_xid_start c ≡ true → (c == 37) ≡ false
start_no_comment c e = elim (cases_lt c 128) [
  | inl low ↦ (let f = sym (is_xid_start-ascii c low) ∙ e in grind (arith, nat_tests))
  | inr high ↦ grind (arith, nat_tests)
]

run_begins : (cs : List ℕ) → IsRun cs → Begins cs
run_begins cs r = record { first = r.first; others = r.others; is = r.is; no_blank = start_no_blank r.first r.starts; no_comment = start_no_comment r.first r.starts }

word_found : (w : List ℕ) (row : Option ℕ) → nat_le (length w) 64 ≡ true → (k : TokenKind) × (word_or_name row w ≡ Some k)
word_found w (Some row) short = (Word row, refl)
word_found w None short = (Ident w, rw short)

word_some : (w : List ℕ) → nat_le (length w) 64 ≡ true → (k : TokenKind) × (word w ≡ Some k)
word_some w short = word_found w (row_of keyword_rows w) short

lexes_word : (w text : List ℕ) (ks : List TokenKind) → is_word w ≡ true → nat_le (length w) 64 ≡ true → Stop text → Lexes text ks → Lexes (w ++ text) (word_kinds (word w) ++ ks)
lexes_word w text ks is short stop l =
    let k = word_some w short in
    let ascii = word_ascii w is in
    rw k.1 (lexes_token w text k.0 ks (IsUtf8-from_ascii w ascii) (rw (chars-IsAscii w ascii) (run_begins w (word_run w is))) (word_token w (chars text) k.0 is k.1 stop.name) l)

lexes_name : (n text : List ℕ) (ks : List TokenKind) → IsName n → Stops is_xid_continue (chars text) → Lexes text ks → Lexes (n ++ text) (Ident n ∷ ks)
lexes_name n text ks is stop l =
    let r = name_run (chars n) n [] is.reads in
    lexes_token n text (Ident n) ks is.text (run_begins (chars n) (record { first = r.first; others = r.others; is = r.is; starts = r.starts; goes_on = r.left })) (name_token n (chars text) is stop) l

digits_begin : (ds : List ℕ) → all_ascii_digits ds ≡ true → 1 ≤ length ds → Begins ds
digits_begin [] all some = absurd (omega arith)
digits_begin (c ∷ cs) all some =
    let digit = (both (is_ascii_digit c) (all_ascii_digits cs) all).0 in
    record { first = c; others = cs; is = refl; no_blank = grind (arith, nat_tests); no_comment = grind (arith, nat_tests) }

lexes_number : (n : ℕ) (text : List ℕ) (ks : List TokenKind) → IsNumber n → Stop text → Lexes text ks → Lexes (decimal n ++ text) (Number n ∷ ks)
lexes_number n text ks is stop l =
    let ascii = number_ascii n is in
    lexes_token (decimal n) text (Number n) ks (IsUtf8-from_ascii (decimal n) ascii)
    (rw (chars-IsAscii (decimal n) ascii) (digits_begin (decimal n) (number_digits n is) (number_some n is)))
    (number_token n (chars text) is stop.number) l

one_char : (c : ℕ) → c < 128 → chars (c ∷ []) ≡ c ∷ []
one_char c low = ascii_chars c [] low ∙ ap (λ cs. c ∷ cs) chars-nil

-- a mark of one character
lexes_sign : (c row : ℕ) (text : List ℕ) (ks : List TokenKind) → c < 128 → is_blank c ≡ false → (c == 37) ≡ false → token_at (c ∷ chars text) ≡ Some (Mark row, chars text) → Lexes text ks
    → Lexes (c ∷ text) (Mark row ∷ ks)
lexes_sign c row text ks low no_blank no_comment e l =
    lexes_token (c ∷ []) text (Mark row) ks (IsUtf8-from_ascii (c ∷ []) (ascii_first c [] low ascii_none))
    (record { first = c; others = []; is = one_char c low; no_blank = no_blank; no_comment = no_comment })
    (rw (one_char c low) e) l

arrow_chars : chars (45 ∷ 62 ∷ []) ≡ 45 ∷ 62 ∷ []
arrow_chars = ascii_chars 45 (62 ∷ []) (omega arith) ∙ ap (λ cs. 45 ∷ cs) (one_char 62 (omega arith))

lexes_arrow : (text : List ℕ) (ks : List TokenKind) → Lexes text ks → Lexes (45 ∷ 62 ∷ text) (Mark ARROW ∷ ks)
lexes_arrow text ks l =
    lexes_token (45 ∷ 62 ∷ []) text (Mark ARROW) ks (IsUtf8-from_ascii (45 ∷ 62 ∷ []) (ascii_first 45 (62 ∷ []) (omega arith) (ascii_first 62 [] (omega arith) ascii_none)))
    (record { first = 45; others = 62 ∷ []; is = arrow_chars; no_blank = refl; no_comment = refl })
    (rw arrow_chars (m.arrow_token (chars text))) l

double_arrow_chars : chars (60 ∷ 45 ∷ 62 ∷ []) ≡ 60 ∷ 45 ∷ 62 ∷ []
double_arrow_chars = ascii_chars 60 (45 ∷ 62 ∷ []) (omega arith) ∙ ap (λ cs. 60 ∷ cs) arrow_chars

double_arrow_ascii : IsAscii (60 ∷ 45 ∷ 62 ∷ [])
double_arrow_ascii = ascii_first 60 (45 ∷ 62 ∷ []) (omega arith) (ascii_first 45 (62 ∷ []) (omega arith) (ascii_first 62 [] (omega arith) ascii_none))

lexes_double_arrow : (text : List ℕ) (ks : List TokenKind) → Lexes text ks → Lexes (60 ∷ 45 ∷ 62 ∷ text) (Mark DOUBLE_ARROW ∷ ks)
lexes_double_arrow text ks l =
    lexes_token (60 ∷ 45 ∷ 62 ∷ []) text (Mark DOUBLE_ARROW) ks (IsUtf8-from_ascii (60 ∷ 45 ∷ 62 ∷ []) double_arrow_ascii)
    (record { first = 60; others = 45 ∷ 62 ∷ []; is = double_arrow_chars; no_blank = refl; no_comment = refl })
    (rw double_arrow_chars (m.double_arrow_token (chars text))) l

lexes_closed : (sign text : List ℕ) (ks : List TokenKind) → IsClosed sign → Lexes text ks → Lexes (sign ++ text) (Mark (unwrap_or (row_of mark_rows sign) 0) ∷ ks)
unfolding mark_rows
lexes_closed _ text ks k.bracket l = lexes_sign 40 OPEN text ks (omega arith) refl refl (m.open_token (chars text)) l
lexes_closed _ text ks k.end_bracket l = lexes_sign 41 CLOSE text ks (omega arith) refl refl (m.close_token (chars text)) l
lexes_closed _ text ks k.brace l = lexes_sign 123 OPEN_BRACE text ks (omega arith) refl refl (m.open_brace_token (chars text)) l
lexes_closed _ text ks k.end_brace l = lexes_sign 125 CLOSE_BRACE text ks (omega arith) refl refl (m.close_brace_token (chars text)) l
lexes_closed _ text ks k.semicolon l = lexes_sign 59 SEMICOLON text ks (omega arith) refl refl (m.semicolon_token (chars text)) l
lexes_closed _ text ks k.bar l = lexes_sign 124 BAR text ks (omega arith) refl refl (m.bar_token (chars text)) l
lexes_closed _ text ks k.comma l = lexes_sign 44 COMMA text ks (omega arith) refl refl (m.comma_token (chars text)) l
lexes_closed _ text ks k.dot l = lexes_sign 46 DOT text ks (omega arith) refl refl (m.dot_token (chars text)) l
lexes_closed _ text ks k.arrow l = lexes_arrow text ks l
lexes_closed _ text ks k.double_arrow l = lexes_double_arrow text ks l

lexes_loose : (sign : List ℕ) (ps : List Piece) (ks : List TokenKind) → IsLoose sign → Spaced ps → Lexes (spell ps) ks → Lexes (sign ++ spell ps) (Mark (unwrap_or (row_of mark_rows sign) 0) ∷ ks)
unfolding mark_rows
lexes_loose _ (Piece.Space ∷ ps) ks k.colon spaced l =
    lexes_sign 58 COLON (32 ∷ spell ps) ks (omega arith) refl refl (rw (ascii_chars 32 (spell ps) (omega arith)) (m.colon_token (chars (spell ps)))) l
lexes_loose _ (Piece.Space ∷ ps) ks k.equal spaced l =
    lexes_sign 61 EQUAL (32 ∷ spell ps) ks (omega arith) refl refl (rw (ascii_chars 32 (spell ps) (omega arith)) (m.equal_token (chars (spell ps)))) l
lexes_loose sign [] ks is spaced l = absurd spaced
lexes_loose sign (Piece.Break ∷ ps) ks is spaced l = absurd spaced
lexes_loose sign (Piece.Word letters ∷ ps) ks is spaced l = absurd spaced
lexes_loose sign (Piece.Ident name ∷ ps) ks is spaced l = absurd spaced
lexes_loose sign (Piece.Number value ∷ ps) ks is spaced l = absurd spaced
lexes_loose sign (Piece.Label label ∷ ps) ks is spaced l = absurd spaced
lexes_loose sign (Piece.Mark other ∷ ps) ks is spaced l = absurd spaced

lexes_mark : (sign : List ℕ) (ps : List Piece) (ks : List TokenKind) → IsClosed sign ⊎ (IsLoose sign × Spaced ps) → Lexes (spell ps) ks → Lexes (sign ++ spell ps) (Mark (unwrap_or (row_of mark_rows sign) 0) ∷ ks)
lexes_mark sign ps ks fits l = elim fits [
  | inl closed ↦ lexes_closed sign (spell ps) ks closed l
  | inr loose ↦ lexes_loose sign ps ks loose.0 loose.1 l
]

-- ---- labels

pub lexes_label : {l : Name} → IsLabel l → (text : List ℕ) (ks : List TokenKind) → Stops is_xid_continue (chars text) → Lexes text ks → Lexes (l ++ text) (label_kinds [] l ++ ks)
lexes_label (s.name {n = n} is) text ks stop l = rw (name_alone [] n (no_dot n is)) (lexes_name n text ks is stop l)
lexes_label (s.dot {n = n} {l = more} is rest) text ks stop l =
    rw (name_first [] n more (no_dot n is), append_assoc n (46 ∷ more) text)
    (lexes_name n (46 ∷ (more ++ text)) (Mark DOT ∷ (label_kinds [] more ++ ks)) is (stop_at 46 (more ++ text) (omega arith) refl refl).name
    (lexes_sign 46 DOT (more ++ text) (label_kinds [] more ++ ks) (omega arith) refl refl (m.dot_token (chars (more ++ text))) (lexes_label rest text ks stop l)))

-- ---- all pieces

pub spelt : (ps : List Piece) → AreFit ps → Lexes (spell ps) (before ps [])
spelt [] fit = lexes_nothing
spelt (Piece.Space ∷ ps) fit = lexes_blank 32 (spell ps) (before ps []) (omega arith) refl (spelt ps fit.1)
spelt (Piece.Break ∷ ps) fit = lexes_blank 10 (spell ps) (before ps []) (omega arith) refl (spelt ps fit.1)
spelt (Piece.Word letters ∷ ps) fit = lexes_word letters (spell ps) (before ps []) fit.0.0 fit.0.1 (ends_stop ps fit.0.2) (spelt ps fit.1)
spelt (Piece.Ident name ∷ ps) fit = lexes_name name (spell ps) (before ps []) fit.0.0 (ends_stop ps fit.0.1).name (spelt ps fit.1)
spelt (Piece.Number value ∷ ps) fit = lexes_number value (spell ps) (before ps []) fit.0.0 (ends_stop ps fit.0.1) (spelt ps fit.1)
spelt (Piece.Label label ∷ ps) fit = lexes_label fit.0.0 (spell ps) (before ps []) (ends_stop ps fit.0.1).name (spelt ps fit.1)
spelt (Piece.Mark sign ∷ ps) fit = lexes_mark sign ps (before ps []) fit.0 (spelt ps fit.1)
