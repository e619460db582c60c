-- The tokens that are read are those that stand in the text.
use Rattle.std.proofs.Common.{ℕ, zero, suc, ◌≡◌, ◌≤◌, ◌<◌, List, [], ◌∷◌, length, take, refl, ap, ◌∙◌, sym, subst, arith, append-nil, length-take}
use Rattle.std.specs.Prelude.{Bool, true, false, if◌then◌else◌, ◌==◌, Option, Some, None, Ok, Err}
use Rattle.std.specs.Str.{chars, IsUtf8, is_utf8}
use Rattle.std.specs.Str.Lossy.{valid_len_up_to, utf8_valid_len}
use Rattle.std.proofs.lemmas.Bool.Decides.{nat_tests}
use Rattle.std.proofs.lemmas.Str.{IsUtf8-nil, IsUtf8-from_is_utf8, encodes-chars, encodes_same, utf8_valid_len_le, length-le-encodes}
use Rattle.kv_lex.specs.declared.token.Token.{Token}
use Rattle.kv_lex.specs.declared.token.TokenKind.{TokenKind}
use Rattle.kv_lex.specs.Laws.{ReadsExactly}
use Rattle.kv_lex.specs.Texts.{IsGap, IsToken, NoToken, place, AreTokens, Fill, Lexed, IsLexed}
use Rattle.kv_lex.specs.Tokens.{skip, token_at, then_lexed, lexed_from, faulty_end, lexed}
use Rattle.kv_lex.proofs.Exact.{token_is, token_only}
use Rattle.kv_lex.proofs.Gaps.{skips_gap, gap_only}
use Rattle.kv_lex.proofs.Parts.{skip_part, token_part}
use Rattle.kv_lex.proofs.Reached.{token_of, from_here, ends_le, read_lt, lexed_step, here_reads, here_faults, then_more, then_none, shorter_end, whole_end}
use Rattle.kv_lex.proofs.Fronts.{no_token}

-- ---- the characters

-- tokens and a gap, behind which the text of `size` bytes ends or no token reads
abbrev Stand : ℕ → List ℕ → Lexed → Type 0
Stand size cs (Ok tokens) = (last : List ℕ) × AreTokens size cs tokens last × IsGap last []
Stand size cs (Err at) = (tokens : List Token) × (last here : List ℕ) × AreTokens size cs tokens last × IsGap last here × NoToken here × (0 < length here) × (length here ≤ length cs) × (place size here ≡ at)

none_stands : (cs : List ℕ) → token_at cs ≡ None → NoToken cs
none_stands cs none kind rest t = let read = token_only cs kind rest t in cc

token_stands : (size : ℕ) (cs here after : List ℕ) (kind : TokenKind) (read : Lexed) → IsGap cs here → IsToken here kind after → length after ≤ length cs → Stand size after read
    → Stand size cs (then_lexed (token_of size kind here after ∷ []) read)
token_stands size cs here after kind (Ok ts) gap token shorter more = (more.0, (here, after, gap, token, refl, refl, more.1), more.2)
token_stands size cs here after kind (Err at) gap token shorter more =
    (token_of size kind here after ∷ more.0, more.1, more.2, (here, after, gap, token, refl, refl, more.3), more.4, more.5, more.6, omega (arith, shorter, more.7), more.8)

abbrev Stands : ℕ → ℕ → Type 0
Stands turns size = (cs : List ℕ) → length cs < turns → Stand size cs (lexed_from turns size cs)

here_stands : (turns size : ℕ) (cs here : List ℕ) (read : Option (TokenKind × List ℕ)) → Stands turns size → IsGap cs here → length here ≤ length cs → length here ≤ turns
    → token_at here ≡ read → Stand size cs (from_here turns size here)
here_stands turns size cs [] None more gap part enough e = (cs, refl, gap)
here_stands turns size cs (c ∷ rest) None more gap part enough e =
    subst (Stand size cs) (sym (here_faults turns size (c ∷ rest) e (omega arith)))
    ([], cs, c ∷ rest, refl, gap, none_stands (c ∷ rest) e, omega arith, part, refl)
here_stands turns size cs here (Some t) more gap part enough e =
    let shorter = read_lt here t.1 t.0 (token_part here t e) in
    subst (Stand size cs) (sym (here_reads turns size here t e))
    (token_stands size cs here t.1 t.0 (lexed_from turns size t.1) gap (token_is here t e)
    (omega (arith, shorter, part)) (more t.1 (omega (arith, enough, shorter))))

all_stand : (turns size : ℕ) → Stands turns size
all_stand zero size cs enough = absurd (omega arith)
all_stand (suc turns) size cs enough =
    subst (Stand size cs) (sym (lexed_step turns size cs))
    (here_stands turns size cs (skip cs) (token_at (skip cs)) (all_stand turns size) (skips_gap cs)
    (ends_le cs (skip cs) (skip_part cs)) (omega (arith, enough, ends_le cs (skip cs) (skip_part cs))) refl)

-- ---- and back

token_is_of : (t : Token) (size : ℕ) (here after : List ℕ) → t.from ≡ place size here → t.to ≡ place size after → token_of size t.kind here after ≡ t
token_is_of t size here after e f = λ i. record { kind = t.kind; from = (sym e) i; to = (sym f) i }

-- what is read from tokens on
abbrev Left : ℕ → List ℕ → List ℕ → List Token → ℕ → Type 0
Left size cs here tokens turns = (m : ℕ) × (lexed_from turns size cs ≡ then_lexed tokens (from_here m size here))

tokens_read : (size turns : ℕ) (cs last here : List ℕ) (tokens : List Token) → length cs < turns → AreTokens size cs tokens last → IsGap last here → Left size cs here tokens turns
tokens_read size zero cs last here tokens enough are gap = absurd (omega arith)
tokens_read size (suc turns) cs last here [] enough are gap =
    (turns, lexed_step turns size cs ∙ ap (from_here turns size) (ap skip are ∙ gap_only last here gap) ∙ sym (then_none (from_here turns size here)))
tokens_read size (suc turns) cs last here (t ∷ ts) enough are gap =
    let front = are.0 in
    let after = are.1 in
    let skipped = gap_only cs front are.2 in
    let read = token_only front t.kind after are.3 in
    let shorter = read_lt front after t.kind (token_part front (t.kind, after) read) in
    let more = tokens_read size turns after last here ts (omega (arith, enough, shorter, ap length skipped, ends_le cs (skip cs) (skip_part cs))) are.6 gap in (
      more.0,
      lexed_step turns size cs ∙ ap (from_here turns size) skipped ∙ here_reads turns size front (t.kind, after) read
          ∙ ap (λ u. then_lexed (u ∷ []) (lexed_from turns size after)) (token_is_of t size front after are.4 are.5)
          ∙ ap (then_lexed (t ∷ [])) more.1 ∙ then_more (t ∷ []) ts (from_here more.0 size here),
    )

-- ---- the bytes

front_cases : (bs : List ℕ) (n : ℕ) (b : Bool) → is_utf8 (take (suc n) bs) ≡ b → IsUtf8 (take (valid_len_up_to bs n) bs) → IsUtf8 (take (if b then suc n else valid_len_up_to bs n) bs)
front_cases bs n true e below = IsUtf8-from_is_utf8 (take (suc n) bs) e
front_cases bs n false e below = below

front_is : (bs : List ℕ) (n : ℕ) → IsUtf8 (take (valid_len_up_to bs n) bs)
front_is bs zero = IsUtf8-nil
front_is bs (suc n) = front_cases bs n (is_utf8 (take (suc n) bs)) refl (front_is bs n)

valid_front : (text : List ℕ) → IsUtf8 (take (utf8_valid_len text) text)
unfolding utf8_valid_len
valid_front text = front_is text (length text)

abbrev valid_chars : List ℕ → List ℕ
valid_chars text = chars (take (utf8_valid_len text) text)

abbrev read_chars : List ℕ → Lexed
read_chars text = lexed_from (suc (length (valid_chars text))) (utf8_valid_len text) (valid_chars text)

lexed_is : (text : List ℕ) → lexed text ≡ faulty_end (utf8_valid_len text) (length text) (read_chars text)
unfolding lexed
lexed_is text = refl

filled : (text : List ℕ) (tokens : List Token) (last here : List ℕ) (at : ℕ) → AreTokens (utf8_valid_len text) (valid_chars text) tokens last → IsGap last here
    → place (utf8_valid_len text) here ≡ at → Fill text tokens at here
filled text tokens last here at are gap e = record {
  characters = valid_chars text;
  utf8 = encodes-chars (take (utf8_valid_len text) text) (valid_front text);
  last = last;
  tokens_are = are;
  gap = gap;
  at_is = e;
}

end_is : (whole : Bool) (text : List ℕ) (tokens : List Token) (last : List ℕ) → (utf8_valid_len text == length text) ≡ whole
    → AreTokens (utf8_valid_len text) (valid_chars text) tokens last → IsGap last [] → IsLexed text (if whole then Ok tokens else Err (utf8_valid_len text))
end_is true text tokens last e are gap = filled text tokens last [] (length text) are gap (grind (arith, nat_tests))
end_is false text tokens last e are gap =
    (tokens, [], filled text tokens last [] (utf8_valid_len text) are gap (omega arith), none_stands [] (no_token [] refl), (let within = utf8_valid_len_le text in grind (arith, nat_tests)))

place_within : (text here : List ℕ) (at : ℕ) → 0 < length here → length here ≤ length (valid_chars text) → place (utf8_valid_len text) here ≡ at → at < length text
place_within text here at some part e =
    let bytes = ap length (encodes-chars (take (utf8_valid_len text) text) (valid_front text)) in
    let within = utf8_valid_len_le text in
    omega (arith, some, part, e, bytes, within, length-take (utf8_valid_len text) text, length-le-encodes (valid_chars text), length-le-encodes here)

whole_is : (text : List ℕ) (read : Lexed) → Stand (utf8_valid_len text) (valid_chars text) read → IsLexed text (faulty_end (utf8_valid_len text) (length text) read)
whole_is text (Ok tokens) stand = end_is (utf8_valid_len text == length text) text tokens stand.0 refl stand.1 stand.2
whole_is text (Err at) stand = (stand.0, stand.2, filled text stand.0 stand.1 stand.2 at stand.3 stand.4 stand.8, stand.5, place_within text stand.2 at stand.6 stand.7 stand.8)

reads : (text : List ℕ) → IsLexed text (lexed text)
reads text = subst (IsLexed text) (sym (lexed_is text))
    (whole_is text (read_chars text) (all_stand (suc (length (valid_chars text))) (utf8_valid_len text) (valid_chars text) (omega arith)))

fill_read : (text : List ℕ) (tokens : List Token) (at : ℕ) (here : List ℕ) → Fill text tokens at here → Left (utf8_valid_len text) (valid_chars text) here tokens (suc (length (valid_chars text)))
fill_read text tokens at here f =
    let same = encodes_same f.characters (valid_chars text) (f.utf8 ∙ sym (encodes-chars (take (utf8_valid_len text) text) (valid_front text))) in
    tokens_read (utf8_valid_len text) (suc (length (valid_chars text))) (valid_chars text) f.last here tokens (omega arith)
    (subst (λ cs. AreTokens (utf8_valid_len text) cs tokens f.last) same f.tokens_are) f.gap

-- all is read
to_end : (text : List ℕ) (tokens : List Token) (at : ℕ) → Fill text tokens at [] → lexed text ≡ (if utf8_valid_len text == length text then Ok tokens else Err (utf8_valid_len text))
to_end text tokens at f =
    lexed_is text ∙ ap (faulty_end (utf8_valid_len text) (length text)) ((fill_read text tokens at [] f).1 ∙ ap Ok (append-nil tokens))

fails : (read : Option (TokenKind × List ℕ)) (cs : List ℕ) → token_at cs ≡ read → NoToken cs → read ≡ None
fails None cs e none = refl
fails (Some t) cs e none = absurd (none t.0 t.1 (token_is cs t e))

only : (text : List ℕ) (read : Lexed) → IsLexed text read → lexed text ≡ read
only text (Ok tokens) is =
    to_end text tokens (length text) is
    ∙ whole_end (utf8_valid_len text) (length text) (Ok tokens) (Err (utf8_valid_len text)) (utf8_valid_len_le text) (omega (arith, is.at_is))
only text (Err at) (tokens, [], f, none, short) =
    let here : utf8_valid_len text ≡ at = omega (arith, f.at_is) in
    to_end text tokens at f
    ∙ shorter_end (utf8_valid_len text) (length text) (Ok tokens) (Err (utf8_valid_len text)) (omega (arith, here, short)) ∙ ap Err here
only text (Err at) (tokens, c ∷ cs, f, none, short) =
    let left = fill_read text tokens at (c ∷ cs) f in
    let fault = here_faults left.0 (utf8_valid_len text) (c ∷ cs) (fails (token_at (c ∷ cs)) (c ∷ cs) refl none) (omega arith) in
    lexed_is text ∙ ap (faulty_end (utf8_valid_len text) (length text)) (left.1 ∙ ap (then_lexed tokens) fault) ∙ ap Err f.at_is

pub reads_exactly : ReadsExactly
reads_exactly text read = (λ e. subst (IsLexed text) e (reads text), only text read)
