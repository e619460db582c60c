-- The token that is read is the one that stands there.
use Rattle.std.proofs.Common.{ℕ, ◌≡◌, ◌≤◌, ◌<◌, List, [], ◌∷◌, ◌++◌, length, refl, ap, ◌∙◌, sym, subst, arith, length-append}
use Rattle.std.specs.Prelude.{Bool, true, false, if◌then◌else◌, nat_le, Option, Some, None, IsTrue, slice_get}
use Rattle.std.specs.List.{list_all}
use Rattle.std.specs.Char.{is_ascii_digit}
use Rattle.std.specs.Str.{encode_utf8_all}
use Rattle.std.specs.Str.Parse.{digits_value}
use Rattle.std.proofs.lemmas.Bool.Decides.{nat_tests}
use Rattle.std.proofs.lemmas.Str.{encode_ascii}
use Rattle.unicode_ident.specs.Ident.{is_xid_start, is_xid_continue}
use Rattle.unicode_ident.proofs.IdentLemmas.{is_xid_start-ascii, is_xid_start-is_xid_continue}
use Rattle.kv_table.specs.Names.{are_different, row_of}
use Rattle.kv_table.specs.Keywords.{keyword_rows}
use Rattle.kv_table.proofs.Lookup.{exact_row, found_row}
use Rattle.kv_lex.specs.declared.token.TokenKind.{TokenKind}
use Rattle.kv_lex.specs.declared.token.TokenKind.TheVariants.{Word, Ident, Number, Mark}
use Rattle.kv_lex.specs.Texts.{begins, IsRun, IsWord, IsToken}
use Rattle.kv_lex.specs.Tokens.{run, past, with_rest, word, word_or_name, max_name, number, max_digits, mark, token_at}
use Rattle.kv_lex.proofs.Fronts.{word_reads, number_reads, mark_at_front}
use Rattle.kv_lex.proofs.Gaps.{both, run_is, run_only}
use Rattle.kv_lex.proofs.Parts.{with_rest_some}
use Rattle.kv_lex.proofs.Signs.{mark_is_sign, longest_read, mark_is}

keywords_differ : IsTrue (are_different keyword_rows)
unfolding keyword_rows
keywords_differ = refl

-- ---- runs from a character that passes

run_from : (passes : ℕ → Bool) (c : ℕ) (cs : List ℕ) → passes c ≡ true → IsRun passes (c ∷ cs) (c ∷ run passes cs) (past passes cs)
run_from passes c cs e = rw e at (run_is passes (c ∷ cs))

run_here : (passes : ℕ → Bool) (c : ℕ) (cs front rest : List ℕ) → passes c ≡ true → IsRun passes (c ∷ cs) front rest → (c ∷ run passes cs ≡ front) × (past passes cs ≡ rest)
run_here passes c cs front rest e r = rw e at (run_only passes (c ∷ cs) front rest r)

-- ---- what is read stands there

keyword_clash : (text : List ℕ) (row : ℕ) → row_of keyword_rows text ≡ None → slice_get keyword_rows row ≡ Some text → ⊥
keyword_clash text row none here =
    let found = (exact_row (row_of keyword_rows text) keyword_rows text refl keywords_differ row).1 here in
    cc

name_case : (fits : Bool) (cs front rest : List ℕ) (kind : TokenKind) → IsWord cs front rest → row_of keyword_rows (encode_utf8_all front) ≡ None
    → nat_le (length (encode_utf8_all front)) max_name ≡ fits → (if fits then Some (Ident (encode_utf8_all front)) else None) ≡ Some kind → IsToken cs kind rest
name_case true cs front rest kind w f short e =
    let same : Ident (encode_utf8_all front) ≡ kind = cc in
    subst (λ k. IsToken cs k rest) same
    (front, w, refl, grind (arith, nat_tests), λ row here. keyword_clash (encode_utf8_all front) row f here)
name_case false cs front rest kind w f short e = absurd cc

word_cases : (found : Option ℕ) (cs front rest : List ℕ) (kind : TokenKind) → IsWord cs front rest → row_of keyword_rows (encode_utf8_all front) ≡ found
    → word_or_name found (encode_utf8_all front) ≡ Some kind → IsToken cs kind rest
word_cases (Some row) cs front rest kind w f e =
    let same : Word row ≡ kind = cc in
    subst (λ k. IsToken cs k rest) same (front, w, found_row keyword_rows (encode_utf8_all front) row f)
word_cases None cs front rest kind w f e = name_case (nat_le (length (encode_utf8_all front)) max_name) cs front rest kind w f refl e

word_is : (c : ℕ) (cs : List ℕ) (t : TokenKind × List ℕ) → is_xid_start c ≡ true
    → with_rest (past is_xid_continue cs) (word (encode_utf8_all (c ∷ run is_xid_continue cs))) ≡ Some t → IsToken (c ∷ cs) t.0 t.1
word_is c cs t starts e =
    let front = c ∷ run is_xid_continue cs in
    let parts = with_rest_some (past is_xid_continue cs) (word (encode_utf8_all front)) t e in
    let here : IsWord (c ∷ cs) front (past is_xid_continue cs) = (starts, run_from is_xid_continue c cs (is_xid_start-is_xid_continue c starts)) in
    subst (IsToken (c ∷ cs) t.0) (sym parts.1) (word_cases (row_of keyword_rows (encode_utf8_all front)) (c ∷ cs) front (past is_xid_continue cs) t.0 here refl parts.0)

digit_byte : (c : ℕ) → is_ascii_digit c ≡ true → c < 128
digit_byte c e = grind (arith, nat_tests)

digits_same : (ds : List ℕ) → list_all is_ascii_digit ds ≡ true → encode_utf8_all ds ≡ ds
digits_same [] e = refl
digits_same (d ∷ ds) e =
    let p = both (is_ascii_digit d) (list_all is_ascii_digit ds) e in
    rw (encode_ascii d (digit_byte d p.0), digits_same ds p.1) refl

number_cases : (fits : Bool) (cs digits rest : List ℕ) (kind : TokenKind) → IsRun is_ascii_digit cs digits rest → 1 ≤ length digits → nat_le (length digits) max_digits ≡ fits
    → (if fits then Some (Number (digits_value 10 digits)) else None) ≡ Some kind → IsToken cs kind rest
number_cases true cs digits rest kind r some short e =
    let same : Number (digits_value 10 digits) ≡ kind = cc in
    subst (λ k. IsToken cs k rest) same (digits, r, some, grind (arith, nat_tests), refl)
number_cases false cs digits rest kind r some short e = absurd cc

number_is : (c : ℕ) (cs : List ℕ) (t : TokenKind × List ℕ) → is_ascii_digit c ≡ true
    → with_rest (past is_ascii_digit cs) (number (encode_utf8_all (c ∷ run is_ascii_digit cs))) ≡ Some t → IsToken (c ∷ cs) t.0 t.1
number_is c cs t digit e =
    let digits = c ∷ run is_ascii_digit cs in
    let parts = with_rest_some (past is_ascii_digit cs) (number (encode_utf8_all digits)) t e in
    let here : IsRun is_ascii_digit (c ∷ cs) digits (past is_ascii_digit cs) = run_from is_ascii_digit c cs digit in
    let read : number digits ≡ Some t.0 = ap number (sym (digits_same digits here.pass)) ∙ parts.0 in
    subst (IsToken (c ∷ cs) t.0) (sym parts.1) (number_cases (nat_le (length digits) max_digits) (c ∷ cs) digits (past is_ascii_digit cs) t.0 here (omega arith) refl read)

token_cases : (starts digit : Bool) (c : ℕ) (cs : List ℕ) (t : TokenKind × List ℕ) → is_xid_start c ≡ starts → is_ascii_digit c ≡ digit
    → (if starts then with_rest (past is_xid_continue cs) (word (encode_utf8_all (c ∷ run is_xid_continue cs)))
    else (if digit then with_rest (past is_ascii_digit cs) (number (encode_utf8_all (c ∷ run is_ascii_digit cs))) else mark (c ∷ cs))) ≡ Some t
    → IsToken (c ∷ cs) t.0 t.1
token_cases true digit c cs t s d e = word_is c cs t s e
token_cases false true c cs t s d e = number_is c cs t d e
token_cases false false c cs t s d e = mark_is (c ∷ cs) t e

pub token_is : (cs : List ℕ) (t : TokenKind × List ℕ) → token_at cs ≡ Some t → IsToken cs t.0 t.1
unfolding token_at
token_is [] t e = absurd cc
token_is (c ∷ cs) t e = token_cases (is_xid_start c) (is_ascii_digit c) c cs t refl refl e

-- ---- what stands there is read

word_is_read : (c : ℕ) (cs front rest : List ℕ) (kind : TokenKind) → IsWord (c ∷ cs) front rest → word (encode_utf8_all front) ≡ Some kind → token_at (c ∷ cs) ≡ Some (kind, rest)
word_is_read c cs front rest kind w e =
    let here = run_here is_xid_continue c cs front rest (is_xid_start-is_xid_continue c w.0) w.1 in
    word_reads (c ∷ cs) cs rest c refl (sym here.1) w.0 ∙ ap (λ f. with_rest rest (word (encode_utf8_all f))) here.0 ∙ ap (with_rest rest) e

keyword_read : (text : List ℕ) (row : ℕ) → slice_get keyword_rows row ≡ Some text → word text ≡ Some (Word row)
keyword_read text row here = rw ((exact_row (row_of keyword_rows text) keyword_rows text refl keywords_differ row).1 here) refl

no_row : (found : Option ℕ) (text : List ℕ) → row_of keyword_rows text ≡ found → ((row : ℕ) → slice_get keyword_rows row ≡ Some text → ⊥) → found ≡ None
no_row None text f none = refl
no_row (Some row) text f none = absurd (none row (found_row keyword_rows text row f))

name_read : (text : List ℕ) → length text ≤ 64 → ((row : ℕ) → slice_get keyword_rows row ≡ Some text → ⊥) → word text ≡ Some (Ident text)
name_read text short none =
    let fits : nat_le (length text) 64 ≡ true = grind (arith, nat_tests) in
    rw (no_row (row_of keyword_rows text) text refl none, fits) refl

first_passes : (passes : ℕ → Bool) (c : ℕ) (cs front rest : List ℕ) → IsRun passes (c ∷ cs) front rest → 1 ≤ length front → passes c ≡ true
first_passes passes c cs [] rest r some = absurd (omega arith)
first_passes passes c cs (d ∷ ds) rest r some =
    let split = r.split in
    let same : d ≡ c = cc in
    subst (λ x. passes x ≡ true) same (both (passes d) (list_all passes ds) r.pass).0

digit_no_start : (c : ℕ) → is_ascii_digit c ≡ true → is_xid_start c ≡ false
digit_no_start c e = is_xid_start-ascii c (digit_byte c e) ∙ grind (arith, nat_tests)

number_is_read : (c : ℕ) (cs digits rest : List ℕ) (value : ℕ) → IsRun is_ascii_digit (c ∷ cs) digits rest → 1 ≤ length digits → length digits ≤ 9 → digits_value 10 digits ≡ value
    → token_at (c ∷ cs) ≡ Some (Number value, rest)
number_is_read c cs digits rest value r some few e =
    let digit = first_passes is_ascii_digit c cs digits rest r some in
    let here = run_here is_ascii_digit c cs digits rest digit r in
    let fits : nat_le (length digits) 9 ≡ true = grind (arith, nat_tests) in
    let read : number digits ≡ Some (Number value) = rw fits (ap (λ v. Some (Number v)) e) in
    number_reads (c ∷ cs) cs rest c refl (sym here.1) (digit_no_start c digit) digit
    ∙ ap (λ f. with_rest rest (number (encode_utf8_all f))) here.0 ∙ ap (λ f. with_rest rest (number f)) (digits_same digits r.pass) ∙ ap (with_rest rest) read

front_fails : (passes : ℕ → Bool) (c : ℕ) (cs front rest : List ℕ) → c ∷ cs ≡ front ++ rest → 1 ≤ length front → begins passes front ≡ false → passes c ≡ false
front_fails passes c cs [] rest e some fails = absurd (omega arith)
front_fails passes c cs (d ∷ ds) rest e some fails = let same : d ≡ c = cc in subst (λ x. passes x ≡ false) same fails

nothing : (front rest : List ℕ) → [] ≡ front ++ rest → 1 ≤ length front → ⊥
nothing front rest e some = omega (arith, some, ap length e, length-append front rest)

pub token_only : (cs : List ℕ) (kind : TokenKind) (rest : List ℕ) → IsToken cs kind rest → token_at cs ≡ Some (kind, rest)
token_only [] (Word row) rest t = absurd cc
token_only [] (Ident name) rest t = absurd cc
token_only [] (Number value) rest t = absurd (nothing t.0 rest t.1.split t.2)
token_only [] (Mark row) rest t = absurd (nothing t.0 rest t.1 (mark_is_sign t.0 row t.2).some)
token_only (c ∷ cs) (Word row) rest t = word_is_read c cs t.0 rest (Word row) t.1 (keyword_read (encode_utf8_all t.0) row t.2)
token_only (c ∷ cs) (Ident name) rest t =
    word_is_read c cs t.0 rest (Ident name) t.1 (ap word t.2 ∙ name_read name t.3 t.4)
token_only (c ∷ cs) (Number value) rest t = number_is_read c cs t.0 rest value t.1 t.2 t.3 t.4
token_only (c ∷ cs) (Mark row) rest t =
    let sign = mark_is_sign t.0 row t.2 in
    mark_at_front (c ∷ cs) cs c refl (front_fails is_xid_start c cs t.0 rest t.1 sign.some sign.no_word) (front_fails is_ascii_digit c cs t.0 rest t.1 sign.some sign.no_number)
    ∙ longest_read (c ∷ cs) t.0 rest row t.1 t.2 t.3
