-- Words, names and numbers that stand at the front of a text.
use Rattle.std.proofs.Common.{ℕ, zero, suc, ◌≡◌, ◌≤◌, ◌<◌, ◌^◌, List, [], ◌∷◌, ◌++◌, length, refl, ap, ◌∙◌, sym, arith, lit<, inl, inr, append-nil}
use Rattle.std.specs.Prelude.{Bool, true, false, ◌&&◌, if◌then◌else◌, Option, Some, None, nat_le, decimal}
use Rattle.std.specs.List.{list_all}
use Rattle.std.specs.Option.{option_map}
use Rattle.std.specs.Char.{is_ascii_digit, is_ascii_alphabetic, is_ascii_alphanumeric}
use Rattle.std.specs.Str.{chars, encode_utf8_all, all_ascii_digits, IsAscii}
use Rattle.std.specs.Str.Parse.{digits_value}
use Rattle.std.proofs.lemmas.Bool.Decides.{leb_tells, nat_tests}
use Rattle.std.proofs.lemmas.Fmt.{IsAscii-decimal, digits_decimal, digits_value-decimal, length-decimal-le, decimal_nonempty}
use Rattle.std.proofs.lemmas.Str.{chars-IsAscii, encodes-IsAscii}
use Rattle.std.proofs.lemmas.Str.Parse.{numerals_by_value, tells_all_ascii_digits}
use Rattle.unicode_ident.specs.Ident.{is_xid_start, is_xid_continue}
use Rattle.unicode_ident.proofs.IdentLemmas.{is_xid_start-ascii, is_xid_continue-ascii}
use Rattle.kv_lex.specs.declared.token.TokenKind.{TokenKind}
use Rattle.kv_lex.specs.declared.token.TokenKind.TheVariants.{Word, Ident, Number, Mark}
use Rattle.kv_lex.specs.Tokens.{run, past, word, number, token_at, mark, mark_of, with_rest, or_next}
use Rattle.kv_session.specs.Spellable.{IsName, IsNumber}
use Rattle.kv_session.proofs.Runs.{Stops, run_all, past_all}

-- the characters are a run that begins like a name
pub record IsRun (cs : List ℕ) : Type 0 where
  pub first : ℕ
  pub others : List ℕ
  pub is : cs ≡ first ∷ others
  pub starts : is_xid_start first ≡ true
  pub goes_on : past is_xid_continue others ≡ []

pub run_token : (cs rest : List ℕ) (kind : TokenKind) → IsRun cs → word (encode_utf8_all cs) ≡ Some kind → Stops is_xid_continue rest → token_at (cs ++ rest) ≡ Some (kind, rest)
unfolding token_at
run_token cs rest kind r e stop =
    let f = rw r.is at e in
    rw (r.is, r.starts, run_all is_xid_continue r.others rest r.goes_on stop, past_all is_xid_continue r.others rest r.goes_on stop, f)

-- ---- words of ASCII letters and digits

-- a letter, and then letters and digits
abbrev pub is_word : List ℕ → Bool
is_word [] = false
is_word (c ∷ cs) = is_ascii_alphabetic c && list_all is_ascii_alphanumeric cs

pub both : (a b : Bool) → (a && b) ≡ true → (a ≡ true) × (b ≡ true)
both true b e = (refl, e)
both false b e = cc

letter_low : (c : ℕ) → is_ascii_alphabetic c ≡ true → c < 128
letter_low c e = grind (arith, nat_tests)

alnum_low : (c : ℕ) → is_ascii_alphanumeric c ≡ true → c < 128
alnum_low c e = grind (arith, nat_tests)

alnum_on : (c : ℕ) → is_ascii_alphanumeric c ≡ true → is_xid_continue c ≡ true
alnum_on c e = rw (is_xid_continue-ascii c (alnum_low c e), e)

alnums_on : (cs : List ℕ) → list_all is_ascii_alphanumeric cs ≡ true → past is_xid_continue cs ≡ []
alnums_on [] e = refl
alnums_on (c ∷ cs) e = let b = both (is_ascii_alphanumeric c) (list_all is_ascii_alphanumeric cs) e in rw (alnum_on c b.0) (alnums_on cs b.1)

pub ascii_first : (c : ℕ) (cs : List ℕ) → c < 128 → IsAscii cs → IsAscii (c ∷ cs)
ascii_first c cs low rest zero = low
ascii_first c cs low rest (suc i) = rest i

pub ascii_none : IsAscii []
ascii_none i = omega arith

alnums_ascii : (cs : List ℕ) → list_all is_ascii_alphanumeric cs ≡ true → IsAscii cs
alnums_ascii [] e = ascii_none
alnums_ascii (c ∷ cs) e = let b = both (is_ascii_alphanumeric c) (list_all is_ascii_alphanumeric cs) e in ascii_first c cs (alnum_low c b.0) (alnums_ascii cs b.1)

pub word_ascii : (w : List ℕ) → is_word w ≡ true → IsAscii w
word_ascii [] e = cc
word_ascii (c ∷ cs) e = let b = both (is_ascii_alphabetic c) (list_all is_ascii_alphanumeric cs) e in ascii_first c cs (letter_low c b.0) (alnums_ascii cs b.1)

pub word_run : (w : List ℕ) → is_word w ≡ true → IsRun w
word_run [] e = cc
word_run (c ∷ cs) e =
    let b = both (is_ascii_alphabetic c) (list_all is_ascii_alphanumeric cs) e in
    record { first = c; others = cs; is = refl; starts = is_xid_start-ascii c (letter_low c b.0) ∙ b.0; goes_on = alnums_on cs b.1 }

pub word_token : (w rest : List ℕ) (kind : TokenKind) → is_word w ≡ true → word w ≡ Some kind → Stops is_xid_continue rest → token_at (chars w ++ rest) ≡ Some (kind, rest)
word_token w rest kind is e stop =
    let ascii = word_ascii w is in
    rw (chars-IsAscii w ascii) (run_token w rest kind (word_run w is) (rw (encodes-IsAscii w ascii) e) stop)

-- ---- names

pub some_is : {A : Type 0} {x y : A} → Some x ≡ Some y → x ≡ y
some_is e = cc

pub with_rest_some : (rest : List ℕ) (kind : Option TokenKind) (k : TokenKind) (left : List ℕ) → with_rest rest kind ≡ Some (k, left) → (kind ≡ Some k) × (rest ≡ left)
with_rest_some rest None k left e = cc
with_rest_some rest (Some x) k left e = let p = some_is e in (ap (λ u. Some u.0) p, ap (λ u. u.1) p)

-- a name is neither a number nor a mark
abbrev is_name : TokenKind → Bool
is_name (Ident n) = true
is_name (Word row) = false
is_name (Number n) = false
is_name (Mark row) = false

other_kind : (t u : TokenKind × List ℕ) → is_name t.0 ≡ false → is_name u.0 ≡ true → Some t ≡ Some u → ⊥
other_kind t u other name e = absurd (let f = ap (λ (v : TokenKind × List ℕ). is_name v.0) (some_is e) in cc)

no_number : (b : Bool) (text rest left n : List ℕ) → with_rest rest (if b then Some (Number (digits_value 10 text)) else None) ≡ Some (Ident n, left) → ⊥
no_number true text rest left n e = other_kind (Number (digits_value 10 text), rest) (Ident n, left) refl refl e
no_number false text rest left n e = absurd (cc)

number_is_no_name : (text rest left n : List ℕ) → with_rest rest (number text) ≡ Some (Ident n, left) → ⊥
number_is_no_name text rest left n e = no_number (nat_le (length text) 9) text rest left n e

mark_is_no_name : (rest left : List ℕ) (row : Option ℕ) (n : List ℕ) → with_rest rest (option_map Mark row) ≡ Some (Ident n, left) → ⊥
mark_is_no_name rest left None n e = absurd (cc)
mark_is_no_name rest left (Some row) n e = other_kind (Mark row, rest) (Ident n, left) refl refl e

marks_are_no_names : (a b c : Option (TokenKind × List ℕ)) (t : TokenKind × List ℕ) → (a ≡ Some t → ⊥) → (b ≡ Some t → ⊥) → (c ≡ Some t → ⊥) → or_next a (or_next b c) ≡ Some t → ⊥
marks_are_no_names (Some x) b c t p q r e = p e
marks_are_no_names None (Some y) c t p q r e = q e
marks_are_no_names None None c t p q r e = r e

-- a token that is a name is a run that begins like a name
pub record NameRun (cs : List ℕ) (n rest : List ℕ) : Type 0 where
  pub first : ℕ
  pub others : List ℕ
  pub is : cs ≡ first ∷ others
  pub starts : is_xid_start first ≡ true
  pub word : word (encode_utf8_all (first ∷ run is_xid_continue others)) ≡ Some (Ident n)
  pub left : past is_xid_continue others ≡ rest

name_cases : (starts digit : Bool) (c : ℕ) (cs n rest : List ℕ) → is_xid_start c ≡ starts
    → (if starts then with_rest (past is_xid_continue cs) (word (encode_utf8_all (c ∷ run is_xid_continue cs)))
    else (if digit then with_rest (past is_ascii_digit cs) (number (encode_utf8_all (c ∷ run is_ascii_digit cs))) else mark (c ∷ cs))) ≡ Some (Ident n, rest)
    → NameRun (c ∷ cs) n rest
name_cases true digit c cs n rest s e =
    let p = with_rest_some (past is_xid_continue cs) (word (encode_utf8_all (c ∷ run is_xid_continue cs))) (Ident n) rest e in
    record { first = c; others = cs; is = refl; starts = s; word = p.0; left = p.1 }
name_cases false true c cs n rest s e = absurd (number_is_no_name (encode_utf8_all (c ∷ run is_ascii_digit cs)) (past is_ascii_digit cs) rest n e)
name_cases false false c cs n rest s e =
    absurd (marks_are_no_names (mark_of 3 (c ∷ cs)) (mark_of 2 (c ∷ cs)) (mark_of 1 (c ∷ cs)) (Ident n, rest)
    (λ f. mark_is_no_name _ rest _ n f) (λ f. mark_is_no_name _ rest _ n f) (λ f. mark_is_no_name _ rest _ n f) e)

pub name_run : (cs n rest : List ℕ) → token_at cs ≡ Some (Ident n, rest) → NameRun cs n rest
unfolding token_at
name_run [] n rest e = cc
name_run (c ∷ cs) n rest e = name_cases (is_xid_start c) (is_ascii_digit c) c cs n rest refl e

whole_run : (cs : List ℕ) → past is_xid_continue cs ≡ [] → run is_xid_continue cs ≡ cs
whole_run cs e = ap (run is_xid_continue) (sym (append-nil cs)) ∙ run_all is_xid_continue cs [] e refl

pub name_token : (n rest : List ℕ) → IsName n → Stops is_xid_continue rest → token_at (chars n ++ rest) ≡ Some (Ident n, rest)
name_token n rest is stop =
    let r = name_run (chars n) n [] is.reads in
    let same = r.is ∙ ap (λ cs. r.first ∷ cs) (sym (whole_run r.others r.left)) in
    run_token (chars n) rest (Ident n) (record { first = r.first; others = r.others; is = r.is; starts = r.starts; goes_on = r.left })
    (ap (λ cs. word (encode_utf8_all cs)) same ∙ r.word) stop

-- ---- numbers

digit_low : (c : ℕ) → is_ascii_digit c ≡ true → c < 128
digit_low c e = grind (arith, nat_tests)

digit_no_letter : (c : ℕ) → is_ascii_digit c ≡ true → is_ascii_alphabetic c ≡ false
digit_no_letter c e = grind (arith, nat_tests)

digits_past : (cs : List ℕ) → all_ascii_digits cs ≡ true → past is_ascii_digit cs ≡ []
digits_past [] e = refl
digits_past (c ∷ cs) e = let b = both (is_ascii_digit c) (all_ascii_digits cs) e in rw b.0 (digits_past cs b.1)

short_number : (text : List ℕ) → length text ≤ 9 → number text ≡ Some (Number (digits_value 10 text))
short_number text short = elim (leb_tells (length text) 9) [
  | inl l ↦ rw l.0
  | inr l ↦ absurd (omega arith)
]

digits_token : (ds rest : List ℕ) → IsAscii ds → all_ascii_digits ds ≡ true → 1 ≤ length ds → length ds ≤ 9 → Stops is_ascii_digit rest
    → token_at (ds ++ rest) ≡ Some (Number (digits_value 10 ds), rest)
unfolding token_at
digits_token [] rest ascii all some short stop = absurd (omega arith)
digits_token (c ∷ cs) rest ascii all some short stop =
    let b = both (is_ascii_digit c) (all_ascii_digits cs) all in
    let past = digits_past cs b.1 in
    rw (
      is_xid_start-ascii c (digit_low c b.0) ∙ digit_no_letter c b.0,
      b.0,
      run_all is_ascii_digit cs rest past stop,
      past_all is_ascii_digit cs rest past stop,
      encodes-IsAscii (c ∷ cs) ascii,
      short_number (c ∷ cs) short,
    )

number_small : (n : ℕ) → IsNumber n → n < 2 ^ 64
number_small n is = let big : 10 ^ 9 < 2 ^ 64 = lit< tt in omega arith

pub number_ascii : (n : ℕ) → IsNumber n → IsAscii (decimal n)
number_ascii n is = IsAscii-decimal n (number_small n is)

pub number_digits : (n : ℕ) → IsNumber n → all_ascii_digits (decimal n) ≡ true
number_digits n is = digits_decimal (numerals_by_value (λ ds. all_ascii_digits ds ≡ true) tells_all_ascii_digits) n (number_small n is)

pub number_some : (n : ℕ) → IsNumber n → 1 ≤ length (decimal n)
number_some n is = decimal_nonempty n (number_small n is)

pub number_token : (n : ℕ) (rest : List ℕ) → IsNumber n → Stops is_ascii_digit rest → token_at (chars (decimal n) ++ rest) ≡ Some (Number n, rest)
number_token n rest is stop =
    let small = number_small n is in
    let own = numerals_by_value (λ ds. all_ascii_digits ds ≡ true) tells_all_ascii_digits in
    let ascii = IsAscii-decimal n small in
    rw (chars-IsAscii (decimal n) ascii)
    (digits_token (decimal n) rest ascii (digits_decimal own n small) (decimal_nonempty n small) (length-decimal-le 9 n (omega arith) is small) stop
    ∙ ap (λ v. Some (Number v, rest)) (digits_value-decimal own n small))
