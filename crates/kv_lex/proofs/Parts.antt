-- The parts into which a text is cut: what is skipped, the token, and the rest.
use Rattle.std.proofs.Common.{ℕ, suc, ◌≡◌, ◌≤◌, List, [], ◌∷◌, ◌++◌, length, take, drop, refl, ap, sym, arith, subst, inl, inr}
use Rattle.std.specs.Prelude.{Bool, true, false, if◌then◌else◌, ◌⊎◌, ◌==◌, nat_le, Option, Some, None}
use Rattle.std.specs.Option.{option_map}
use Rattle.std.specs.Char.{is_ascii_digit}
use Rattle.std.specs.Str.{encode_utf8_all, all_ascii_digits}
use Rattle.std.specs.Str.Parse.{digits_value}
use Rattle.std.proofs.lemmas.List.{take-append-drop}
use Rattle.unicode_ident.specs.Ident.{is_xid_start, is_xid_continue}
use Rattle.kv_table.specs.Names.{row_of}
use Rattle.kv_table.specs.Keywords.{keyword_rows}
use Rattle.kv_table.proofs.Lookup.{found_row}
use Rattle.kv_lex.specs.declared.token.TokenKind.{TokenKind}
use Rattle.kv_lex.specs.declared.token.TokenKind.TheVariants.{Word, Ident, Number, Mark}
use Rattle.kv_lex.specs.Marks.{mark_rows}
use Rattle.kv_lex.specs.Spelling.{Spells}
use Rattle.kv_lex.specs.Tokens.{run, past, is_blank, skip, skip_comment, with_rest, or_next, word, word_or_name, max_name, number, max_digits, mark, mark_of, token_at}
use Rattle.kv_lex.proofs.Fronts.{run_past, digit_run}

-- ---- what is skipped

abbrev pub EndsWith : List ℕ → List ℕ → Type 0
EndsWith cs rest = (front : List ℕ) × (cs ≡ front ++ rest)

skip_step : (blank percent : Bool) (c : ℕ) (cs plain comment : List ℕ) → EndsWith cs plain → EndsWith cs comment
    → EndsWith (c ∷ cs) (if blank then plain else (if percent then comment else c ∷ cs))
skip_step true percent c cs plain comment p q = (c ∷ p.0, ap (λ r. c ∷ r) p.1)
skip_step false true c cs plain comment p q = (c ∷ q.0, ap (λ r. c ∷ r) q.1)
skip_step false false c cs plain comment p q = ([], refl)

mutual
  pub skip_part : (cs : List ℕ) → EndsWith cs (skip cs)
  skip_part [] = ([], refl)
  skip_part (c ∷ cs) = skip_step (is_blank c) (c == 37) c cs (skip cs) (skip_comment cs) (skip_part cs) (comment_part cs)

  comment_part : (cs : List ℕ) → EndsWith cs (skip_comment cs)
  comment_part [] = ([], refl)
  comment_part (c ∷ cs) = skip_step (c == 10) true c cs (skip cs) (skip_comment cs) (skip_part cs) (comment_part cs)

-- ---- what is read

-- a token at the front: its characters, which spell its kind, and the characters behind it
pub record Reads (cs : List ℕ) (kind : TokenKind) (rest : List ℕ) : Type 0 where
  pub text : List ℕ
  pub split : cs ≡ text ++ rest
  pub some : 1 ≤ length text
  pub spells : Spells (encode_utf8_all text) kind

pub with_rest_some : (rest : List ℕ) (kind : Option TokenKind) (t : TokenKind × List ℕ) → with_rest rest kind ≡ Some t → (kind ≡ Some t.0) × (t.1 ≡ rest)
with_rest_some rest None t e = absurd cc
with_rest_some rest (Some k) t e = let p : (k, rest) ≡ t = cc in (ap (λ u. Some u.0) p, ap (λ u. u.1) (sym p))

or_some : (a b : Option (TokenKind × List ℕ)) (t : TokenKind × List ℕ) → or_next a b ≡ Some t → (a ≡ Some t) ⊎ (b ≡ Some t)
or_some None b t e = inr e
or_some (Some u) b t e = inl e

if_some : (b : Bool) (k kind : TokenKind) → (if b then Some k else None) ≡ Some kind → k ≡ kind
if_some true k kind e = cc
if_some false k kind e = absurd cc

word_cases : (found : Option ℕ) (text : List ℕ) (kind : TokenKind) → row_of keyword_rows text ≡ found → word_or_name found text ≡ Some kind → Spells text kind
word_cases (Some row) text kind f e =
    let same : Word row ≡ kind = cc in subst (Spells text) same (found_row keyword_rows text row f)
word_cases None text kind f e = subst (Spells text) (if_some (nat_le (length text) max_name) (Ident text) kind e) refl

word_spells : (text : List ℕ) (kind : TokenKind) → word text ≡ Some kind → Spells text kind
word_spells text kind e = word_cases (row_of keyword_rows text) text kind refl e

number_spells : (text : List ℕ) (kind : TokenKind) → all_ascii_digits text ≡ true → number text ≡ Some kind → Spells text kind
number_spells text kind digits e = subst (Spells text) (if_some (nat_le (length text) max_digits) (Number (digits_value 10 text)) kind e) (digits, refl)

mark_cases : (found : Option ℕ) (text : List ℕ) (kind : TokenKind) → row_of mark_rows text ≡ found → option_map Mark found ≡ Some kind → Spells text kind
mark_cases None text kind f e = absurd cc
mark_cases (Some row) text kind f e =
    let same : Mark row ≡ kind = cc in subst (Spells text) same (found_row mark_rows text row f)

run_part : (passes : ℕ → Bool) (c : ℕ) (cs : List ℕ) (t : TokenKind × List ℕ) → t.1 ≡ past passes cs → Spells (encode_utf8_all (c ∷ run passes cs)) t.0 → Reads (c ∷ cs) t.0 t.1
run_part passes c cs t e spells = record {
  text = c ∷ run passes cs;
  split = rw e (ap (λ r. c ∷ r) (run_past passes cs));
  some = omega arith;
  spells = spells;
}

word_part : (c : ℕ) (cs : List ℕ) (t : TokenKind × List ℕ) → with_rest (past is_xid_continue cs) (word (encode_utf8_all (c ∷ run is_xid_continue cs))) ≡ Some t → Reads (c ∷ cs) t.0 t.1
word_part c cs t e =
    let parts = with_rest_some (past is_xid_continue cs) (word (encode_utf8_all (c ∷ run is_xid_continue cs))) t e in
    run_part is_xid_continue c cs t parts.1 (word_spells (encode_utf8_all (c ∷ run is_xid_continue cs)) t.0 parts.0)

number_part : (c : ℕ) (cs : List ℕ) (t : TokenKind × List ℕ) → is_ascii_digit c ≡ true → with_rest (past is_ascii_digit cs) (number (encode_utf8_all (c ∷ run is_ascii_digit cs))) ≡ Some t → Reads (c ∷ cs) t.0 t.1
number_part c cs t digit e =
    let parts = with_rest_some (past is_ascii_digit cs) (number (encode_utf8_all (c ∷ run is_ascii_digit cs))) t e in
    run_part is_ascii_digit c cs t parts.1 (number_spells (encode_utf8_all (c ∷ run is_ascii_digit cs)) t.0 (digit_run c cs digit) parts.0)

mark_part : (n c : ℕ) (cs : List ℕ) (t : TokenKind × List ℕ) → mark_of (suc n) (c ∷ cs) ≡ Some t → Reads (c ∷ cs) t.0 t.1
mark_part n c cs t e =
    let parts = with_rest_some (drop n cs) (option_map Mark (row_of mark_rows (encode_utf8_all (c ∷ take n cs)))) t e in
    record {
      text = c ∷ take n cs;
      split = rw parts.1 (ap (λ r. c ∷ r) (sym (take-append-drop n cs)));
      some = omega arith;
      spells = mark_cases (row_of mark_rows (encode_utf8_all (c ∷ take n cs))) (encode_utf8_all (c ∷ take n cs)) t.0 refl parts.0;
    }

marks_part : (c : ℕ) (cs : List ℕ) (t : TokenKind × List ℕ) → mark (c ∷ cs) ≡ Some t → Reads (c ∷ cs) t.0 t.1
marks_part c cs t e = elim (or_some (mark_of 3 (c ∷ cs)) (or_next (mark_of 2 (c ∷ cs)) (mark_of 1 (c ∷ cs))) t e) [
  | inl three ↦ mark_part 2 c cs t three
  | inr fewer ↦ elim (or_some (mark_of 2 (c ∷ cs)) (mark_of 1 (c ∷ cs)) t fewer) [
    | inl two ↦ mark_part 1 c cs t two
    | inr one ↦ mark_part 0 c cs t one
  ]
]

token_cases : (starts digit : Bool) (c : ℕ) (cs : List ℕ) (t : TokenKind × List ℕ) → is_ascii_digit c ≡ digit
    → (if starts then with_rest (past is_xid_continue cs) (word (encode_utf8_all (c ∷ run is_xid_continue cs)))
    else (if digit then with_rest (past is_ascii_digit cs) (number (encode_utf8_all (c ∷ run is_ascii_digit cs))) else mark (c ∷ cs))) ≡ Some t
    → Reads (c ∷ cs) t.0 t.1
token_cases true digit c cs t d e = word_part c cs t e
token_cases false true c cs t d e = number_part c cs t d e
token_cases false false c cs t d e = marks_part c cs t e

pub token_part : (cs : List ℕ) (t : TokenKind × List ℕ) → token_at cs ≡ Some t → Reads cs t.0 t.1
unfolding token_at
token_part [] t e = absurd cc
token_part (c ∷ cs) t e = token_cases (is_xid_start c) (is_ascii_digit c) c cs t refl e
