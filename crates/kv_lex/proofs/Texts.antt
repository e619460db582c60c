-- A text cut in two between characters.
use Rattle.std.proofs.Common.{ℕ, ◌-◌, ◌≡◌, ◌≤◌, List, [], ◌∷◌, ◌++◌, length, take, drop, ap, ◌∙◌, sym, arith, length-append}
use Rattle.std.specs.Str.{chars, encode_utf8_all, IsUtf8, IsCharBoundary}
use Rattle.std.proofs.lemmas.List.{take-append-drop}
use Rattle.std.proofs.Math.Seq.{take-append_seam}
use Rattle.std.proofs.lemmas.Str.{encodes-chars, encodes-append, IsCharBoundary-at_seam, chars-nil}

pub empty_chars : (text : List ℕ) → length text ≡ 0 → chars text ≡ []
empty_chars [] e = chars-nil
empty_chars (b ∷ bs) e = absurd (omega arith)

-- the bytes of a text whose characters are those of a front and those of the rest
pub split_bytes : (text rest front : List ℕ) → IsUtf8 text → IsUtf8 rest → chars text ≡ front ++ chars rest → text ≡ encode_utf8_all front ++ rest
split_bytes text rest front u v e =
    sym (encodes-chars text u) ∙ ap encode_utf8_all e ∙ encodes-append front (chars rest) ∙ ap (λ r. encode_utf8_all front ++ r) (encodes-chars rest v)

pub rest_le : (text rest front : List ℕ) → text ≡ front ++ rest → length rest ≤ length text
rest_le text rest front e = omega (arith, length-append front rest, ap length e)

-- the same, where the characters are known
pub rest_fits : (text rest front : List ℕ) → IsUtf8 text → IsUtf8 rest → chars text ≡ front ++ chars rest → length rest ≤ length text
rest_fits text rest front u v e = rest_le text rest (encode_utf8_all front) (split_bytes text rest front u v e)

pub front_length : (text rest front : List ℕ) → text ≡ front ++ rest → length text - length rest ≡ length front
front_length text rest front e = omega (arith, length-append front rest, ap length e)

pub cut_boundary : (text rest front : List ℕ) → IsUtf8 rest → text ≡ front ++ rest → IsCharBoundary text (length text - length rest)
cut_boundary text rest front v e = rw (front_length text rest front e) (IsCharBoundary-at_seam text front rest e v)

pub cut_front : (text rest front : List ℕ) → text ≡ front ++ rest → take (length text - length rest) text ≡ front
cut_front text rest front e = rw (front_length text rest front e) (ap (take (length front)) e ∙ take-append_seam front rest)

pub split_at : (n : ℕ) (cs rest : List ℕ) → rest ≡ drop n cs → cs ≡ take n cs ++ rest
split_at n cs rest e = sym (ap (λ r. take n cs ++ r) e ∙ take-append-drop n cs)
