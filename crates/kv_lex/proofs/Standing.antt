-- The tokens of a text stand in it, each with its spelling.
use Rattle.std.proofs.Common.{ℕ, zero, suc, ◌+◌, ◌-◌, ◌≡◌, ◌≤◌, List, [], ◌∷◌, ◌++◌, length, take, drop, refl, ap, ◌∙◌, sym, arith, subst, append_assoc, length-append}
use Rattle.std.specs.Prelude.{Bool, true, false, Option, Some, None, Ok, Err, if◌then◌else◌, ◌==◌, slice_range}
use Rattle.std.specs.Str.{chars, encode_utf8_all, IsUtf8}
use Rattle.std.specs.Str.Lossy.{utf8_valid_len}
use Rattle.std.proofs.Math.Seq.{take-append_seam, drop-append_seam}
use Rattle.std.proofs.lemmas.Str.{encodes-append, encodes-chars, length-le-encodes}
use Rattle.std.proofs.lemmas.List.{take-append-drop}
use Rattle.kv_lex.specs.declared.token.Token.{Token}
use Rattle.kv_lex.specs.declared.token.TokenKind.{TokenKind}
use Rattle.kv_lex.specs.Spelling.{Spells, StandIn}
use Rattle.kv_lex.specs.Tokens.{skip, token_at, Lexed, then_lexed, place, lexed_from, faulty_end, lexed}
use Rattle.kv_lex.proofs.Parts.{skip_part, Reads, token_part}
use Rattle.kv_lex.proofs.Reached.{token_of, from_here, lexed_step, here_reads, here_faults, whole_text}

-- ---- where what stands before is `before`, and behind it the characters `cs` and then the bytes `tail`

pub record Placed (text before tail : List ℕ) (size : ℕ) (cs : List ℕ) : Type 0 where
  pub is : text ≡ before ++ (encode_utf8_all cs ++ tail)
  pub fits : length before + length (encode_utf8_all cs) ≡ size

placed_on : (text before tail : List ℕ) (size : ℕ) (cs front rest : List ℕ) → Placed text before tail size cs → cs ≡ front ++ rest
    → Placed text (before ++ encode_utf8_all front) tail size rest
placed_on text before tail size cs front rest p e =
    let bytes : encode_utf8_all cs ≡ encode_utf8_all front ++ encode_utf8_all rest = ap encode_utf8_all e ∙ encodes-append front rest in
    record {
      is = p.is ∙ ap (λ r. before ++ (r ++ tail)) bytes ∙ ap (λ r. before ++ r) (append_assoc (encode_utf8_all front) (encode_utf8_all rest) tail)
          ∙ sym (append_assoc before (encode_utf8_all front) (encode_utf8_all rest ++ tail));
      fits = omega (arith, p.fits, length-append before (encode_utf8_all front), length-append (encode_utf8_all front) (encode_utf8_all rest), ap length bytes);
    }

place_here : (text before tail : List ℕ) (size : ℕ) (cs : List ℕ) → Placed text before tail size cs → place size cs ≡ length before
place_here text before tail size cs p = omega (arith, p.fits)

slice_middle : (text a b c : List ℕ) → text ≡ a ++ (b ++ c) → slice_range text (length a) (length (a ++ b)) ≡ b
slice_middle text a b c e =
    ap (λ t. slice_range t (length a) (length (a ++ b))) e ∙ ap (take (length (a ++ b) - length a)) (drop-append_seam a (b ++ c))
    ∙ ap (λ n. take n (b ++ c)) (omega (arith, length-append a b)) ∙ take-append_seam b c

slice_here : (text before tail : List ℕ) (size : ℕ) (cs front rest : List ℕ) → Placed text before tail size cs → cs ≡ front ++ rest
    → slice_range text (place size cs) (place size rest) ≡ encode_utf8_all front
slice_here text before tail size cs front rest p e =
    let q = placed_on text before tail size cs front rest p e in
    let a = place_here text before tail size cs p in
    let b = place_here text (before ++ encode_utf8_all front) tail size rest q in
    let cut = slice_middle text before (encode_utf8_all front) (encode_utf8_all rest ++ tail) (q.is ∙ append_assoc before (encode_utf8_all front) (encode_utf8_all rest ++ tail)) in
    subst (λ i. slice_range text i (place size rest) ≡ encode_utf8_all front) (sym a)
    (subst (λ j. slice_range text (length before) j ≡ encode_utf8_all front) (sym b) cut)

then_ok : (tokens ts : List Token) (more : Lexed) → then_lexed tokens more ≡ Ok ts → (us : List Token) × (more ≡ Ok us) × (ts ≡ tokens ++ us)
then_ok tokens ts (Ok us) e = let same : tokens ++ us ≡ ts = cc in (us, refl, sym same)
then_ok tokens ts (Err at) e = absurd cc

token_stands : (text before tail : List ℕ) (size at : ℕ) (cs rest : List ℕ) (kind : TokenKind) (us : List Token) → Placed text before tail size cs → Reads cs kind rest → at ≤ length before
    → StandIn text (place size rest) us → StandIn text at (token_of size kind cs rest ∷ us)
token_stands text before tail size at cs rest kind us p r h more =
    let q = placed_on text before tail size cs r.text rest p r.split in
    let a = place_here text before tail size cs p in
    let b = place_here text (before ++ encode_utf8_all r.text) tail size rest q in
    let grown = length-append before (encode_utf8_all r.text) in
    let some = length-le-encodes r.text in
    let whole = ap length q.is ∙ length-append (before ++ encode_utf8_all r.text) (encode_utf8_all rest ++ tail) in
    (omega arith, omega (arith, r.some), omega arith, subst (λ w. Spells w kind) (sym (slice_here text before tail size cs r.text rest p r.split)) r.spells, more)

-- the tokens of the rest stand behind what was read
abbrev pub Stands : ℕ → ℕ → Type 0
Stands turns size = (text before tail cs : List ℕ) (ts : List Token) → Placed text before tail size cs → lexed_from turns size cs ≡ Ok ts → StandIn text (length before) ts

here_stands : (turns size : ℕ) (text before tail cs : List ℕ) (at : ℕ) (ts : List Token) (read : Option (TokenKind × List ℕ)) → Stands turns size → Placed text before tail size cs → at ≤ length before
    → token_at cs ≡ read → from_here turns size cs ≡ Ok ts → StandIn text at ts
here_stands turns size text before tail [] at ts None more p h t e = let none : [] ≡ ts = cc in subst (StandIn text at) none tt
here_stands turns size text before tail (c ∷ cs) at ts None more p h t e =
    let fault = here_faults turns size (c ∷ cs) t (omega arith) in absurd cc
here_stands turns size text before tail cs at ts (Some t) more p h r e =
    let read = token_part cs t r in
    let q = placed_on text before tail size cs read.text t.1 p read.split in
    let later = then_ok (token_of size t.0 cs t.1 ∷ []) ts (lexed_from turns size t.1) (sym (here_reads turns size cs t r) ∙ e) in
    let rest = more text (before ++ encode_utf8_all read.text) tail t.1 later.0 q later.1 in
    let b = place_here text (before ++ encode_utf8_all read.text) tail size t.1 q in
    subst (StandIn text at) (sym later.2)
    (token_stands text before tail size at cs t.1 t.0 later.0 p read h (subst (λ n. StandIn text n later.0) (sym b) rest))

none_stand : (size : ℕ) → Stands zero size
unfolding lexed_from
none_stand size = λ text before tail cs ts p e. let none : [] ≡ ts = cc in subst (StandIn text (length before)) none tt

all_stand : (turns size : ℕ) → Stands turns size
all_stand zero size = none_stand size
all_stand (suc turns) size = λ text before tail cs ts p e.
    let skipped = skip_part cs in
    here_stands turns size text (before ++ encode_utf8_all skipped.0) tail (skip cs) (length before) ts (token_at (skip cs)) (all_stand turns size)
    (placed_on text before tail size cs skipped.0 (skip cs) p skipped.1) (omega (arith, length-append before (encode_utf8_all skipped.0)))
    refl (sym (lexed_step turns size cs) ∙ e)

end_ok : (b : Bool) (valid : ℕ) (us ts : List Token) → (if b then Ok us else Err valid) ≡ Ok ts → us ≡ ts
end_ok true valid us ts e = cc
end_ok false valid us ts e = absurd cc

faulty_ok : (valid size : ℕ) (read : Lexed) (ts : List Token) → faulty_end valid size read ≡ Ok ts → read ≡ Ok ts
faulty_ok valid size (Ok us) ts e = ap Ok (end_ok (valid == size) valid us ts e)
faulty_ok valid size (Err at) ts e = absurd cc

pub text_stands : (text valid : List ℕ) (ts : List Token) → IsUtf8 valid → valid ≡ take (utf8_valid_len text) text → lexed text ≡ Ok ts → StandIn text 0 ts
text_stands text valid ts u front e =
    let bytes = encodes-chars valid u in
    let read = faulty_ok (length valid) (length text) (lexed_from (suc (length (chars valid))) (length valid) (chars valid)) ts (sym (whole_text text valid front) ∙ e) in
    all_stand (suc (length (chars valid))) (length valid) text [] (drop (utf8_valid_len text) text) (chars valid) ts
    (record {
      is = sym (take-append-drop (utf8_valid_len text) text) ∙ ap (λ v. v ++ drop (utf8_valid_len text) text) (sym (bytes ∙ front));
      fits = omega (arith, ap length bytes);
    })
    read
