-- What reads at the front of a text.
use Rattle.std.proofs.Common.{ℕ, ◌≡◌, ◌≤◌, List, [], ◌∷◌, ◌++◌, length, take, drop, refl, ap, ◌∙◌, arith}
use Rattle.std.specs.Prelude.{Bool, true, false, cond, Option, None}
use Rattle.std.specs.Option.{option_map}
use Rattle.std.specs.Char.{is_ascii_digit, encode_utf8}
use Rattle.std.specs.Str.{encode_utf8_all, all_ascii_digits}
use Rattle.std.proofs.lemmas.Bool.Decides.{nat_tests}
use Rattle.std.proofs.lemmas.Str.{encode_ascii, length-le-encodes}
use Rattle.unicode_ident.specs.Ident.{is_xid_start, is_xid_continue}
use Rattle.kv_table.specs.Names.{row_of}
use Rattle.kv_lex.specs.declared.token.TokenKind.TheVariants.{Mark}
use Rattle.kv_lex.specs.Marks.{mark_rows}
use Rattle.kv_lex.specs.Tokens.{run, past, with_rest, word, number, mark, mark_of, token_at}

pub mark_reads : (n : ℕ) (cs rest : List ℕ) (found : Option ℕ) → rest ≡ drop n cs → found ≡ row_of mark_rows (encode_utf8_all (take n cs)) → option_map (λ kind. (kind, rest)) (option_map Mark found) ≡ mark_of n cs
mark_reads n cs rest found e f = rw (e, f)

run_past_step : (b : Bool) (c : ℕ) (cs front rest : List ℕ) → cs ≡ front ++ rest → c ∷ cs ≡ cond b (c ∷ front) [] ++ cond b rest (c ∷ cs)
run_past_step true c cs front rest e = ap (λ r. c ∷ r) e
run_past_step false c cs front rest e = refl

pub run_past : (passes : ℕ → Bool) (cs : List ℕ) → cs ≡ run passes cs ++ past passes cs
run_past passes [] = refl
run_past passes (c ∷ cs) = run_past_step (passes c) c cs (run passes cs) (past passes cs) (run_past passes cs)

-- a text that begins with c and a run
pub run_seam : (passes : ℕ → Bool) (cs after rest : List ℕ) (c : ℕ) → cs ≡ c ∷ after → rest ≡ past passes after → cs ≡ (c ∷ run passes after) ++ rest
run_seam passes cs after rest c e f = rw f (e ∙ ap (λ r. c ∷ r) (run_past passes after))

pub no_token : (cs : List ℕ) → cs ≡ [] → token_at cs ≡ None
unfolding token_at
no_token cs e = rw e

pub word_reads : (cs after rest : List ℕ) (c : ℕ) → cs ≡ c ∷ after → rest ≡ past is_xid_continue after → is_xid_start c ≡ true
    → token_at cs ≡ with_rest rest (word (encode_utf8_all (c ∷ run is_xid_continue after)))
unfolding token_at
word_reads cs after rest c e f starts = rw (e, f, starts)

pub number_reads : (cs after rest : List ℕ) (c : ℕ) → cs ≡ c ∷ after → rest ≡ past is_ascii_digit after → is_xid_start c ≡ false → is_ascii_digit c ≡ true
    → token_at cs ≡ with_rest rest (number (encode_utf8_all (c ∷ run is_ascii_digit after)))
unfolding token_at
number_reads cs after rest c e f starts digit = rw (e, f, starts, digit)

pub mark_at_front : (cs after : List ℕ) (c : ℕ) → cs ≡ c ∷ after → is_xid_start c ≡ false → is_ascii_digit c ≡ false → token_at cs ≡ mark cs
unfolding token_at
mark_at_front cs after c e starts digit = rw (e, starts, digit)

-- ---- digits are their own bytes

digit_byte : (c : ℕ) → is_ascii_digit c ≡ true → encode_utf8 c ≡ c ∷ []
digit_byte c digit = encode_ascii c (grind (arith, nat_tests))

run_step : (b : Bool) (c : ℕ) (cs : List ℕ) → is_ascii_digit c ≡ b → all_ascii_digits (encode_utf8_all cs) ≡ true → all_ascii_digits (encode_utf8_all (cond b (c ∷ cs) [])) ≡ true
run_step true c cs digit rest = rw (digit_byte c digit, digit, rest)
run_step false c cs digit rest = refl

digits_run : (cs : List ℕ) → all_ascii_digits (encode_utf8_all (run is_ascii_digit cs)) ≡ true
digits_run [] = refl
digits_run (c ∷ cs) = run_step (is_ascii_digit c) c (run is_ascii_digit cs) refl (digits_run cs)

pub digit_run : (c : ℕ) (cs : List ℕ) → is_ascii_digit c ≡ true → all_ascii_digits (encode_utf8_all (c ∷ run is_ascii_digit cs)) ≡ true
digit_run c cs digit = run_step true c (run is_ascii_digit cs) digit (digits_run cs)

pub some_bytes : (c : ℕ) (cs : List ℕ) → 1 ≤ length (encode_utf8_all (c ∷ cs))
some_bytes c cs = omega (arith, length-le-encodes (c ∷ cs))
