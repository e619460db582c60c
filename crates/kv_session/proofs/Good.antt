-- The tokens of a text have names and numbers that texts can spell.
use Rattle.std.proofs.Common.{ℕ, zero, suc, ◌≡◌, ◌<◌, ◌^◌, List, [], ◌∷◌, ◌++◌, length, take, refl, ap, ◌∙◌, sym, subst, inl, inr, append-nil}
use Rattle.std.specs.Prelude.{Bool, true, false, cond, if◌then◌else◌, nat_le, ◌==◌, Option, Some, None, Ok, Err}
use Rattle.std.specs.Option.{option_map}
use Rattle.std.specs.Char.{is_ascii_digit}
use Rattle.std.specs.Str.{chars, encode_utf8_all, all_ascii_digits}
use Rattle.std.proofs.Math.Utf8.{scalar, scalars}
use Rattle.std.specs.Str.Lossy.{utf8_valid_len}
use Rattle.std.proofs.lemmas.Bool.Decides.{leb_tells}
use Rattle.std.proofs.lemmas.Str.{chars-encodes, scalars-chars}
use Rattle.std.proofs.lemmas.Str.Parse.{numerals_by_value, tells_all_ascii_digits, digits_value_short}
use Rattle.unicode_ident.specs.Ident.{is_xid_start, is_xid_continue}
use Rattle.kv_table.specs.Names.{row_of}
use Rattle.kv_table.specs.Keywords.{keyword_rows}
use Rattle.kv_lex.proofs.Fronts.{run_past, digit_run}
use Rattle.kv_lex.proofs.Parts.{EndsWith, skip_part, token_part}
use Rattle.kv_lex.specs.Tokens.{run, past, skip, word, word_or_name, number, token_at, mark, mark_of, with_rest, or_next, lexed_from, lexed, then_lexed, step, Lexed, faulty_end, place}
use Rattle.kv_lex.specs.declared.token.Token.{Token}
use Rattle.kv_lex.specs.declared.token.TokenKind.{TokenKind}
use Rattle.kv_lex.specs.declared.token.TokenKind.TheVariants.{Word, Ident, Number, Mark}
use Rattle.kv_pexpr.specs.Gives.{kinds}
use Rattle.kv_session.proofs.Utf8.{valid_front}
use Rattle.kv_session.proofs.Words.{IsRun, run_token, name_run, both, some_is, with_rest_some}
use Rattle.kv_session.specs.Spellable.{IsName, IsNumber}

-- what texts can spell
abbrev pub IsGood : TokenKind → Type 0
IsGood (Word row) = Unit {0}
IsGood (Ident name) = IsName name
IsGood (Number value) = IsNumber value
IsGood (Mark row) = Unit {0}

abbrev pub AreGood : List TokenKind → Type 0
AreGood [] = Unit {0}
AreGood (k ∷ ks) = IsGood k × AreGood ks

-- ---- names

past_on_run : (b : Bool) (c : ℕ) (front : List ℕ) (passes : ℕ → Bool) → passes c ≡ b → past passes front ≡ [] → past passes (cond b (c ∷ front) []) ≡ []
past_on_run true c front passes is e = rw is e
past_on_run false c front passes is e = refl

past_run : (passes : ℕ → Bool) (cs : List ℕ) → past passes (run passes cs) ≡ []
past_run passes [] = refl
past_run passes (c ∷ cs) = past_on_run (passes c) c (run passes cs) passes refl (past_run passes cs)

ident_is : {n m : List ℕ} → Some (Ident n) ≡ Some (Ident m) → n ≡ m
ident_is e = cc

long_name : (fits : Bool) (text n : List ℕ) → (if fits then Some (Ident text) else None) ≡ Some (Ident n) → text ≡ n
long_name true text n e = ident_is e
long_name false text n e = cc

word_is : (row : Option ℕ) (text n : List ℕ) → word_or_name row text ≡ Some (Ident n) → text ≡ n
word_is (Some row) text n e = absurd (cc)
word_is None text n e = long_name (nat_le (length text) 64) text n e

front_scalars : (cs ds : List ℕ) → scalars (cs ++ ds) ≡ true → (scalars cs ≡ true) × (scalars ds ≡ true)
front_scalars [] ds e = (refl, e)
front_scalars (c ∷ cs) ds e =
    let b = both (scalar c) (scalars (cs ++ ds)) e in
    let rest = front_scalars cs ds b.1 in
    (rw b.0 rest.0, rest.1)

name_good : (cs n rest : List ℕ) → scalars cs ≡ true → token_at cs ≡ Some (Ident n, rest) → IsName n
name_good cs n rest valid e =
    let r = name_run cs n rest e in
    let w : List ℕ = r.first ∷ run is_xid_continue r.others in
    let same : encode_utf8_all w ≡ n = word_is (row_of keyword_rows (encode_utf8_all w)) (encode_utf8_all w) n r.word in
    let split : cs ≡ w ++ past is_xid_continue r.others = r.is ∙ ap (λ ds. r.first ∷ ds) (run_past is_xid_continue r.others) in
    let scalar = (front_scalars w (past is_xid_continue r.others) (ap scalars (sym split) ∙ valid)).0 in
    let is_run : IsRun w = record { first = r.first; others = run is_xid_continue r.others; is = refl; starts = r.starts; goes_on = past_run is_xid_continue r.others } in
    let again = run_token w [] (Ident n) is_run r.word refl in
    let back : chars n ≡ w = ap chars (sym same) ∙ chars-encodes w scalar in
    record { text = (w, (scalar, same)); reads = ap token_at (back ∙ sym (append-nil w)) ∙ again }

-- ---- numbers

-- a number is neither a word, a name nor a mark
abbrev is_number : TokenKind → Bool
is_number (Ident n) = false
is_number (Word row) = false
is_number (Number n) = true
is_number (Mark row) = false

other_kind : (t u : TokenKind × List ℕ) → is_number t.0 ≡ false → is_number u.0 ≡ true → Some t ≡ Some u → ⊥
other_kind t u other is e = absurd (let f = ap (λ (v : TokenKind × List ℕ). is_number v.0) (some_is e) in cc)

no_word : (row : Option ℕ) (fits : Bool) (text : List ℕ) (value : ℕ) → nat_le (length text) 64 ≡ fits → word_or_name row text ≡ Some (Number value) → ⊥
no_word (Some row) fits text value f e = absurd (let g = ap (λ (o : Option TokenKind). option_map is_number o) e in cc)
no_word None true text value f e = absurd (let e' = rw f at e in let g = ap (λ (o : Option TokenKind). option_map is_number o) e' in cc)
no_word None false text value f e = absurd (let e' = rw f at e in cc)

no_mark : (rest left : List ℕ) (row : Option ℕ) (value : ℕ) → with_rest rest (option_map Mark row) ≡ Some (Number value, left) → ⊥
no_mark rest left None value e = absurd (cc)
no_mark rest left (Some row) value e = other_kind (Mark row, rest) (Number value, left) refl refl e

no_marks : (a b c : Option (TokenKind × List ℕ)) (t : TokenKind × List ℕ) → (a ≡ Some t → ⊥) → (b ≡ Some t → ⊥) → (c ≡ Some t → ⊥) → or_next a (or_next b c) ≡ Some t → ⊥
no_marks (Some x) b c t p q r e = p e
no_marks None (Some y) c t p q r e = q e
no_marks None None c t p q r e = r e

number_is : {n m : ℕ} → Some (Number n) ≡ Some (Number m) → n ≡ m
number_is e = cc

short_number : (text : List ℕ) (value : ℕ) → all_ascii_digits text ≡ true → number text ≡ Some (Number value) → IsNumber value
short_number text value digits e = elim (leb_tells (length text) 9) [
  | inl l ↦ (let f = rw l.0 at e in
      subst (λ n. n < 10 ^ 9) (number_is f) (digits_value_short (numerals_by_value (λ ds. all_ascii_digits ds ≡ true) tells_all_ascii_digits) text 9 digits l.1))
  | inr l ↦ absurd (let f = rw l.0 at e in cc)
]

number_cases : (starts digit : Bool) (c : ℕ) (cs rest : List ℕ) (value : ℕ) → is_ascii_digit c ≡ digit
    → (if starts then with_rest (past is_xid_continue cs) (word (encode_utf8_all (c ∷ run is_xid_continue cs)))
    else (if digit then with_rest (past is_ascii_digit cs) (number (encode_utf8_all (c ∷ run is_ascii_digit cs))) else mark (c ∷ cs))) ≡ Some (Number value, rest)
    → IsNumber value
number_cases true digit c cs rest value d e =
    let text = encode_utf8_all (c ∷ run is_xid_continue cs) in
    let p = with_rest_some (past is_xid_continue cs) (word text) (Number value) rest e in
    absurd (no_word (row_of keyword_rows text) (nat_le (length text) 64) text value refl p.0)
number_cases false true c cs rest value d e =
    let p = with_rest_some (past is_ascii_digit cs) (number (encode_utf8_all (c ∷ run is_ascii_digit cs))) (Number value) rest e in
    short_number (encode_utf8_all (c ∷ run is_ascii_digit cs)) value (digit_run c cs d) p.0
number_cases false false c cs rest value d e =
    absurd (no_marks (mark_of 3 (c ∷ cs)) (mark_of 2 (c ∷ cs)) (mark_of 1 (c ∷ cs)) (Number value, rest)
    (λ f. no_mark _ rest _ value f) (λ f. no_mark _ rest _ value f) (λ f. no_mark _ rest _ value f) e)

number_good : (cs rest : List ℕ) (value : ℕ) → token_at cs ≡ Some (Number value, rest) → IsNumber value
unfolding token_at
number_good [] rest value e = absurd (cc)
number_good (c ∷ cs) rest value e = number_cases (is_xid_start c) (is_ascii_digit c) c cs rest value refl e

kind_good : (cs rest : List ℕ) (kind : TokenKind) → scalars cs ≡ true → token_at cs ≡ Some (kind, rest) → IsGood kind
kind_good cs rest (Word row) valid e = tt
kind_good cs rest (Ident n) valid e = name_good cs n rest valid e
kind_good cs rest (Number value) valid e = number_good cs rest value e
kind_good cs rest (Mark row) valid e = tt

-- ---- all tokens

ends_scalars : (cs ds : List ℕ) → EndsWith cs ds → scalars cs ≡ true → scalars ds ≡ true
ends_scalars cs ds ends e = (front_scalars ends.0 ds (ap scalars (sym ends.1) ∙ e)).1

ok_is : (read : Lexed) (ts us : List Token) → read ≡ Ok ts → read ≡ Ok us → ts ≡ us
ok_is read ts us e f = cc

-- all tokens that are read are good
abbrev Goods : Lexed → Type 0
Goods read = (ts : List Token) → read ≡ Ok ts → AreGood (kinds ts)

then_good : (token : Token) (read : Lexed) → IsGood token.kind → Goods read → Goods (then_lexed (token ∷ []) read)
then_good token (Ok us) good rest ts e = subst (λ (x : List Token). AreGood (kinds x)) (ok_is (then_lexed (token ∷ []) (Ok us)) (token ∷ us) ts refl e) (good, rest us refl)
then_good token (Err at) good rest ts e = absurd (cc)

nothing_good : (read : Lexed) → read ≡ Ok [] → Goods read
nothing_good read none ts e = subst (λ (x : List Token). AreGood (kinds x)) (ok_is read [] ts none e) tt

step_good : (more : List ℕ → Lexed) (size : ℕ) (cs : List ℕ) (read : Option (TokenKind × List ℕ)) → scalars cs ≡ true → token_at cs ≡ read
    → ((rest : List ℕ) → scalars rest ≡ true → Goods (more rest)) → Goods (step more size cs read)
step_good more size [] read valid e next ts f = nothing_good (Ok []) refl ts f
step_good more size (c ∷ cs) None valid e next ts f = absurd (cc)
step_good more size (c ∷ cs) (Some t) valid e next ts f =
    let part = token_part (c ∷ cs) t e in
    then_good (record { kind = t.0; from = place size (c ∷ cs); to = place size t.1 }) (more t.1) (kind_good (c ∷ cs) t.1 t.0 valid e)
    (next t.1 (ends_scalars (c ∷ cs) t.1 (part.text, part.split) valid)) ts f

all_good : (turns size : ℕ) (cs : List ℕ) → scalars cs ≡ true → Goods (lexed_from turns size cs)
unfolding lexed_from
all_good zero size cs valid ts e = nothing_good (Ok []) refl ts e
all_good (suc turns) size cs valid ts e =
    step_good (lexed_from turns size) size (skip cs) (token_at (skip cs)) (ends_scalars cs (skip cs) (skip_part cs) valid) refl (λ rest s. all_good turns size rest s) ts e

end_good : (b : Bool) (valid : ℕ) (us : List Token) → Goods (Ok us) → Goods (if b then Ok us else Err valid)
end_good true valid us good ts e = good ts e
end_good false valid us good ts e = absurd (cc)

faulty_good : (valid size : ℕ) (read : Lexed) → Goods read → Goods (faulty_end valid size read)
faulty_good valid size (Ok us) good ts e = end_good (valid == size) valid us good ts e
faulty_good valid size (Err at) good ts e = good ts e

pub lexed_good : (text : List ℕ) → Goods (lexed text)
unfolding lexed
lexed_good text =
    let valid = take (utf8_valid_len text) text in
    faulty_good (utf8_valid_len text) (length text) (lexed_from (suc (length (chars valid))) (utf8_valid_len text) (chars valid))
    (all_good (suc (length (chars valid))) (utf8_valid_len text) (chars valid) (scalars-chars valid (valid_front text)))
