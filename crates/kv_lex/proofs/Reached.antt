-- How far the loop over a text has come.
use Rattle.std.proofs.Common.{ℕ, zero, suc, ◌+◌, ◌-◌, ◌≡◌, ◌≤◌, ◌<◌, List, [], ◌∷◌, ◌++◌, length, take, refl, ap, ◌∙◌, sym, arith, subst, append_assoc, append-nil, length-append}
use Rattle.std.specs.Prelude.{true, false, Option, Some, None, Ok, Err, if◌then◌else◌, ◌==◌}
use Rattle.std.specs.Str.{chars, encode_utf8_all, IsUtf8}
use Rattle.std.specs.Str.Lossy.{utf8_valid_len}
use Rattle.std.specs.Borrow.{Bor}
use Rattle.std.specs.Option.{option_map}
use Rattle.std.proofs.lemmas.Bool.Decides.{nat_tests}
use Rattle.std.proofs.lemmas.Str.{utf8_valid_len_le, encodes-chars, length-le-encodes}
use Rattle.kv_lex.proofs.Texts.{empty_chars}
use Rattle.std.proofs.lemmas.List.{length-take}
use Rattle.kv_lex.specs.declared.token.Token.{Token}
use Rattle.kv_lex.specs.declared.token.TokenKind.{TokenKind}
use Rattle.kv_lex.specs.Tokens.{skip, token_at, Lexed, then_lexed, place, step, lexed_from, faulty_end, lexed}
use Rattle.kv_lex.proofs.Parts.{EndsWith, skip_part, Reads, token_part}

-- the token from which `cs` is read on, and behind which `rest` stands
abbrev pub token_of : ℕ → TokenKind → List ℕ → List ℕ → Token
token_of size kind cs rest = record { kind = kind; from = place size cs; to = place size rest }

-- the tokens from a place at which no blank or comment stands
abbrev pub from_here : ℕ → ℕ → List ℕ → Lexed
from_here turns size cs = step (lexed_from turns size) size cs (token_at cs)

-- the tokens of `whole`, a text of `size` bytes, are those that were read and then those of `cs`
pub record Reached (size : ℕ) (whole : List ℕ) (tokens : List Token) (cs : List ℕ) : Type 0 where
  pub part : EndsWith whole cs
  pub few : length tokens + length cs ≤ length whole
  pub turns : ℕ
  pub enough : length cs ≤ turns
  pub reads : lexed_from (suc (length whole)) size whole ≡ then_lexed tokens (from_here turns size cs)

pub then_none : (more : Lexed) → then_lexed [] more ≡ more
then_none (Ok more) = refl
then_none (Err at) = refl

pub then_more : (ts us : List Token) (more : Lexed) → then_lexed ts (then_lexed us more) ≡ then_lexed (ts ++ us) more
then_more ts us (Ok more) = ap Ok (sym (append_assoc ts us more))
then_more ts us (Err at) = refl

pub ends_le : (cs rest : List ℕ) → EndsWith cs rest → length rest ≤ length cs
ends_le cs rest e = omega (arith, length-append e.0 rest, ap length e.1)

pub ends_ends : (cs ds es : List ℕ) → EndsWith cs ds → EndsWith ds es → EndsWith cs es
ends_ends cs ds es p q = (p.0 ++ q.0, p.1 ∙ ap (λ r. p.0 ++ r) q.1 ∙ sym (append_assoc p.0 q.0 es))

pub read_lt : (cs rest : List ℕ) (kind : TokenKind) → Reads cs kind rest → length rest < length cs
read_lt cs rest kind r = omega (arith, length-append r.text rest, ap length r.split, r.some)

pub lexed_step : (turns size : ℕ) (cs : List ℕ) → lexed_from (suc turns) size cs ≡ from_here turns size (skip cs)
unfolding lexed_from
lexed_step turns size cs = refl

pub here_reads : (turns size : ℕ) (cs : List ℕ) (t : TokenKind × List ℕ) → token_at cs ≡ Some t → from_here turns size cs ≡ then_lexed (token_of size t.0 cs t.1 ∷ []) (lexed_from turns size t.1)
here_reads turns size [] t e = absurd (omega (arith, read_lt [] t.1 t.0 (token_part [] t e)))
here_reads turns size (c ∷ cs) t e = rw e

pub here_faults : (turns size : ℕ) (cs : List ℕ) → token_at cs ≡ None → 0 < length cs → from_here turns size cs ≡ Err (place size cs)
here_faults turns size [] e some = absurd (omega arith)
here_faults turns size (c ∷ cs) e some = rw e

next_turn : (turns size : ℕ) (rest : List ℕ) → length rest < turns → (m : ℕ) × (length (skip rest) ≤ m) × (lexed_from turns size rest ≡ from_here m size (skip rest))
next_turn zero size rest enough = absurd (omega arith)
next_turn (suc m) size rest enough = (m, omega (arith, ends_le rest (skip rest) (skip_part rest)), lexed_step m size rest)

pub at_start : (size : ℕ) (whole : List ℕ) → Reached size whole [] (skip whole)
at_start size whole = record {
  part = skip_part whole;
  few = omega (arith, ends_le whole (skip whole) (skip_part whole));
  turns = length whole;
  enough = ends_le whole (skip whole) (skip_part whole);
  reads = lexed_step (length whole) size whole ∙ sym (then_none (from_here (length whole) size (skip whole)));
}

pub after_token : (size : ℕ) (whole : List ℕ) (tokens : List Token) (cs rest : List ℕ) (kind : TokenKind) → Reached size whole tokens cs → token_at cs ≡ Some (kind, rest)
    → Reached size whole (tokens ++ token_of size kind cs rest ∷ []) (skip rest)
after_token size whole tokens cs rest kind r e =
    let read = token_part cs (kind, rest) e in
    let shorter = read_lt cs rest kind read in
    let skipped = ends_le rest (skip rest) (skip_part rest) in
    let next = next_turn r.turns size rest (omega (arith, r.enough)) in
    record {
      part = ends_ends whole cs (skip rest) r.part (ends_ends cs rest (skip rest) (read.text, read.split) (skip_part rest));
      few = omega (arith, r.few, length-append tokens (token_of size kind cs rest ∷ []));
      turns = next.0;
      enough = next.1;
      reads = r.reads ∙ ap (then_lexed tokens) (here_reads r.turns size cs (kind, rest) e ∙ ap (then_lexed (token_of size kind cs rest ∷ [])) next.2)
          ∙ then_more tokens (token_of size kind cs rest ∷ []) (from_here next.0 size (skip rest));
    }

-- ---- what the reading of a token answers

pub some_read : (read : Option (TokenKind × Bor (List ℕ))) (here : List ℕ) (kind : TokenKind) (after : Bor (List ℕ)) → option_map (λ found. (found.0, chars found.1.now)) read ≡ token_at here
    → read ≡ Some (kind, after) → token_at here ≡ Some (kind, chars after.now)
some_read read here kind after e f = sym e ∙ rw f

pub none_read : (read : Option (TokenKind × Bor (List ℕ))) (here : List ℕ) → option_map (λ found. (found.0, chars found.1.now)) read ≡ token_at here
    → read ≡ None → token_at here ≡ None
none_read read here e f = sym e ∙ rw f

-- ---- the whole text

pub place_is : (size : ℕ) (rest : List ℕ) → IsUtf8 rest → place size (chars rest) ≡ size - length rest
place_is size rest u = ap (λ r. size - length r) (encodes-chars rest u)

pub after_read : (size : ℕ) (whole : List ℕ) (tokens : List Token) (rest after : List ℕ) (kind : TokenKind) → IsUtf8 rest → IsUtf8 after
    → Reached size whole tokens (chars rest) → token_at (chars rest) ≡ Some (kind, chars after)
    → Reached size whole (tokens ++ record { kind = kind; from = size - length rest; to = size - length after } ∷ []) (skip (chars after))
after_read size whole tokens rest after kind u v r e =
    let P : ℕ → ℕ → Type 0 = λ from to. Reached size whole (tokens ++ record { kind = kind; from = from; to = to } ∷ []) (skip (chars after)) in
    subst (P (size - length rest)) (place_is size after v)
    (subst (λ from. P from (place size (chars after))) (place_is size rest u) (after_token size whole tokens (chars rest) (chars after) kind r e))

some_front : (cs rest : List ℕ) → encode_utf8_all cs ≡ rest → 0 < length rest → 0 < length cs
some_front [] rest e some = absurd (omega (arith, ap length e))
some_front (c ∷ cs) rest e some = omega arith

pub some_chars : (rest : List ℕ) → IsUtf8 rest → false ≡ (length rest == 0) → 0 < length (chars rest)
some_chars rest u e = some_front (chars rest) rest (encodes-chars rest u) (grind (arith, nat_tests))

pub no_chars : (rest : List ℕ) → true ≡ (length rest == 0) → chars rest ≡ []
no_chars rest e = empty_chars rest (grind (arith, nat_tests))

pub shorter_end : (m n : ℕ) (x y : Lexed) → m < n → (if m == n then x else y) ≡ y
shorter_end m n x y h = grind (arith, nat_tests)

pub whole_end : (m n : ℕ) (x y : Lexed) → m ≤ n → n ≤ m → (if m == n then x else y) ≡ x
whole_end m n x y h k = grind (arith, nat_tests)

pub valid_le : (text valid : List ℕ) → valid ≡ take (utf8_valid_len text) text → length valid ≤ length text
valid_le text valid front = omega (arith, ap length front, length-take (utf8_valid_len text) text)

pub few_tokens : (valid : List ℕ) (tokens : List Token) (cs : List ℕ) → IsUtf8 valid → Reached (length valid) (chars valid) tokens cs → length tokens ≤ length valid
few_tokens valid tokens cs u r = omega (arith, r.few, length-le-encodes (chars valid), ap length (encodes-chars valid u))

valid_length : (text valid : List ℕ) → valid ≡ take (utf8_valid_len text) text → length valid ≡ utf8_valid_len text
valid_length text valid front = omega (arith, ap length front, length-take (utf8_valid_len text) text, utf8_valid_len_le text)

pub whole_text : (text valid : List ℕ) → valid ≡ take (utf8_valid_len text) text
    → lexed text ≡ faulty_end (length valid) (length text) (lexed_from (suc (length (chars valid))) (length valid) (chars valid))
unfolding lexed
whole_text text valid front = rw (← front, ← valid_length text valid front)

pub fault_at : (text valid : List ℕ) (tokens : List Token) (cs : List ℕ) → valid ≡ take (utf8_valid_len text) text
    → Reached (length valid) (chars valid) tokens cs → token_at cs ≡ None → 0 < length cs → lexed text ≡ Err (place (length valid) cs)
fault_at text valid tokens cs front r e some =
    whole_text text valid front ∙ ap (faulty_end (length valid) (length text)) (r.reads ∙ ap (then_lexed tokens) (here_faults r.turns (length valid) cs e some))

nothing_left : (size : ℕ) (whole : List ℕ) (tokens : List Token) (cs : List ℕ) → Reached size whole tokens cs → cs ≡ [] → lexed_from (suc (length whole)) size whole ≡ Ok tokens
nothing_left size whole tokens cs r e = r.reads ∙ rw e (ap Ok (append-nil tokens))

pub all_read : (text valid : List ℕ) (tokens : List Token) (cs : List ℕ) → valid ≡ take (utf8_valid_len text) text
    → Reached (length valid) (chars valid) tokens cs → cs ≡ [] → lexed text ≡ (if length valid == length text then Ok tokens else Err (length valid))
all_read text valid tokens cs front r e =
    whole_text text valid front ∙ ap (faulty_end (length valid) (length text)) (nothing_left (length valid) (chars valid) tokens cs r e)
