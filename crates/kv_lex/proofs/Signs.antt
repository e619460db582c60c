-- The mark that is read is the longest one that stands there.
use Rattle.std.proofs.Common.{ℕ, zero, suc, ◌≡◌, ◌≤◌, ◌<◌, List, [], ◌∷◌, ◌++◌, length, take, drop, refl, ap, ◌∙◌, sym, subst, arith, inl, inr, length-append, length-take, take-append-drop, take_at, drop_at}
use Rattle.std.specs.Prelude.{Bool, true, false, not, ◌&&◌, nat_le, nat_lt, Option, Some, None, IsTrue, slice_get, ◌⊎◌}
use Rattle.std.specs.List.{list_all}
use Rattle.std.specs.Option.{option_map}
use Rattle.std.specs.Char.{is_ascii_digit, is_ascii_alphabetic}
use Rattle.std.specs.Str.{encode_utf8_all}
use Rattle.std.proofs.lemmas.Bool.{cases_lt}
use Rattle.std.proofs.lemmas.Bool.Decides.{nat_tests}
use Rattle.std.proofs.lemmas.Str.{encode_ascii, encodes_same}
use Rattle.unicode_ident.specs.Ident.{is_xid_start}
use Rattle.unicode_ident.proofs.IdentLemmas.{is_xid_start-ascii}
use Rattle.kv_table.specs.Names.{are_different, row_of}
use Rattle.kv_table.proofs.Lookup.{exact_row, found_row}
use Rattle.kv_lex.specs.declared.token.TokenKind.{TokenKind}
use Rattle.kv_lex.specs.declared.token.TokenKind.TheVariants.{Mark}
use Rattle.kv_lex.specs.Marks.{mark_rows}
use Rattle.kv_lex.specs.Texts.{begins, IsMark, IsToken}
use Rattle.kv_lex.specs.Tokens.{or_next, with_rest, mark, mark_of}
use Rattle.kv_lex.proofs.Gaps.{both}

-- ---- what each mark is

abbrev starts_mark : ℕ → Bool
starts_mark c = nat_lt c 128 && (not (is_ascii_alphabetic c) && not (is_ascii_digit c))

abbrev is_sign : List ℕ → Bool
is_sign bs = nat_le (length bs) 3 && (begins starts_mark bs && list_all (λ b. nat_lt b 128) bs)

signs : list_all is_sign mark_rows ≡ true
unfolding mark_rows
signs = refl

marks_differ : IsTrue (are_different mark_rows)
unfolding mark_rows
marks_differ = refl

row_passes : (p : List ℕ → Bool) (rows : List (List ℕ)) (i : ℕ) (row : List ℕ) → list_all p rows ≡ true → slice_get rows i ≡ Some row → p row ≡ true
row_passes p [] i row all e = absurd cc
row_passes p (r ∷ rows) zero row all e = let same : r ≡ row = cc in subst (λ x. p x ≡ true) same (both (p r) (list_all p rows) all).0
row_passes p (r ∷ rows) (suc i) row all e = row_passes p rows i row (both (p r) (list_all p rows) all).1 e

low : (c : ℕ) → nat_lt c 128 ≡ true → c < 128
low c e = grind (arith, nat_tests)

ascii_same : (bs : List ℕ) → list_all (λ b. nat_lt b 128) bs ≡ true → encode_utf8_all bs ≡ bs
ascii_same [] e = refl
ascii_same (b ∷ bs) e =
    let p = both (nat_lt b 128) (list_all (λ b. nat_lt b 128) bs) e in
    rw (encode_ascii b (low b p.0), ascii_same bs p.1) refl

sign_of : (sign : List ℕ) (row : ℕ) → IsMark sign row → is_sign sign ≡ true
sign_of sign row e =
    let bytes = encode_utf8_all sign in
    let p = row_passes is_sign mark_rows row bytes signs e in
    let q = both (nat_le (length bytes) 3) (begins starts_mark bytes && list_all (λ b. nat_lt b 128) bytes) p in
    let r = both (begins starts_mark bytes) (list_all (λ b. nat_lt b 128) bytes) q.1 in
    subst (λ s. is_sign s ≡ true) (encodes_same bytes sign (ascii_same bytes r.1)) p

is_not : (b : Bool) → not b ≡ true → b ≡ false
is_not true e = cc
is_not false e = refl

-- a mark has one to three characters, and begins with neither a letter nor a digit
pub record Sign (sign : List ℕ) : Type 0 where
  pub some : 1 ≤ length sign
  pub few : length sign ≤ 3
  pub no_word : begins is_xid_start sign ≡ false
  pub no_number : begins is_ascii_digit sign ≡ false

sign_facts : (sign : List ℕ) → is_sign sign ≡ true → Sign sign
sign_facts [] e = cc
sign_facts (c ∷ cs) e =
    let p = both (nat_le (length (c ∷ cs)) 3) (starts_mark c && list_all (λ b. nat_lt b 128) (c ∷ cs)) e in
    let q = both (starts_mark c) (list_all (λ b. nat_lt b 128) (c ∷ cs)) p.1 in
    let r = both (nat_lt c 128) (not (is_ascii_alphabetic c) && not (is_ascii_digit c)) q.0 in
    let s = both (not (is_ascii_alphabetic c)) (not (is_ascii_digit c)) r.1 in
    record {
      some = omega arith;
      few = (let few = p.0 in grind (arith, nat_tests));
      no_word = is_xid_start-ascii c (low c r.0) ∙ is_not (is_ascii_alphabetic c) s.0;
      no_number = is_not (is_ascii_digit c) s.1;
    }

pub mark_is_sign : (sign : List ℕ) (row : ℕ) → IsMark sign row → Sign sign
mark_is_sign sign row e = sign_facts sign (sign_of sign row e)

row_is : (sign : List ℕ) (row : ℕ) → IsMark sign row → row_of mark_rows (encode_utf8_all sign) ≡ Some row
row_is sign row e = (exact_row (row_of mark_rows (encode_utf8_all sign)) mark_rows (encode_utf8_all sign) refl marks_differ row).1 e

-- a mark that the first n characters are is read
mark_at : (n : ℕ) (cs : List ℕ) (row : ℕ) → IsMark (take n cs) row → mark_of n cs ≡ Some (Mark row, drop n cs)
mark_at n cs row e = rw (row_is (take n cs) row e) refl

-- ---- the longest mark is read

abbrev pub Longest : List ℕ → List ℕ → Type 0
Longest cs sign = (other behind : List ℕ) (kind : ℕ) → cs ≡ other ++ behind → IsMark other kind → length other ≤ length sign

same_front : (m : ℕ) (cs sign rest : List ℕ) → cs ≡ sign ++ rest → length (take m cs) ≡ length sign → (take m cs ≡ sign) × (drop m cs ≡ rest)
same_front m cs sign rest e size =
    let parts : take m cs ++ drop m cs ≡ sign ++ rest = take-append-drop m cs ∙ e in (
      sym (take_at (take m cs) (drop m cs) (length sign) size) ∙ ap (take (length sign)) parts ∙ take_at sign rest (length sign) refl,
      sym (drop_at (take m cs) (drop m cs) (length sign) size) ∙ ap (drop (length sign)) parts ∙ drop_at sign rest (length sign) refl,
    )

beyond_cases : (found : Option ℕ) (m : ℕ) (cs sign rest : List ℕ) (row : ℕ) → cs ≡ sign ++ rest → IsMark sign row → Longest cs sign → length sign ≤ m
    → row_of mark_rows (encode_utf8_all (take m cs)) ≡ found → (mark_of m cs ≡ None) ⊎ (mark_of m cs ≡ Some (Mark row, rest))
beyond_cases None m cs sign rest row e here longest past f = inl (rw f refl)
beyond_cases (Some k) m cs sign rest row e here longest past f =
    let short = longest (take m cs) (drop m cs) k (sym (take-append-drop m cs)) (found_row mark_rows (encode_utf8_all (take m cs)) k f) in
    let same = same_front m cs sign rest e (omega (arith, short, length-take m cs, ap length e, length-append sign rest)) in
    inr (mark_at m cs row (subst (λ s. IsMark s row) (sym same.0) here) ∙ ap (λ r. Some (Mark row, r)) same.1)

beyond : (m : ℕ) (cs sign rest : List ℕ) (row : ℕ) → cs ≡ sign ++ rest → IsMark sign row → Longest cs sign → length sign ≤ m
    → (mark_of m cs ≡ None) ⊎ (mark_of m cs ≡ Some (Mark row, rest))
beyond m cs sign rest row e here longest past = beyond_cases (row_of mark_rows (encode_utf8_all (take m cs))) m cs sign rest row e here longest past refl

exactly : (m : ℕ) (cs sign rest : List ℕ) (row : ℕ) → cs ≡ sign ++ rest → IsMark sign row → length sign ≡ m → mark_of m cs ≡ Some (Mark row, rest)
exactly m cs sign rest row e here size =
    let same = same_front m cs sign rest e (omega (arith, size, length-take m cs, ap length e, length-append sign rest)) in
    mark_at m cs row (subst (λ s. IsMark s row) (sym same.0) here) ∙ ap (λ r. Some (Mark row, r)) same.1

or_beyond : (a b : Option (TokenKind × List ℕ)) (t : TokenKind × List ℕ) → (a ≡ None) ⊎ (a ≡ Some t) → b ≡ Some t → or_next a b ≡ Some t
or_beyond a b t (inl e) f = rw e f
or_beyond a b t (inr e) f = rw e refl

pick : (n : ℕ) (cs sign rest : List ℕ) (row : ℕ) → cs ≡ sign ++ rest → IsMark sign row → Longest cs sign → length sign ≡ n → Sign sign → mark cs ≡ Some (Mark row, rest)
pick zero cs sign rest row e here longest size s = absurd (omega (arith, s.some, size))
pick (suc zero) cs sign rest row e here longest size s =
    or_beyond (mark_of 3 cs) (or_next (mark_of 2 cs) (mark_of 1 cs)) (Mark row, rest) (beyond 3 cs sign rest row e here longest (omega (arith, size)))
    (or_beyond (mark_of 2 cs) (mark_of 1 cs) (Mark row, rest) (beyond 2 cs sign rest row e here longest (omega (arith, size))) (exactly 1 cs sign rest row e here size))
pick (suc (suc zero)) cs sign rest row e here longest size s =
    or_beyond (mark_of 3 cs) (or_next (mark_of 2 cs) (mark_of 1 cs)) (Mark row, rest) (beyond 3 cs sign rest row e here longest (omega (arith, size)))
    (rw (exactly 2 cs sign rest row e here size) refl)
pick (suc (suc (suc zero))) cs sign rest row e here longest size s = rw (exactly 3 cs sign rest row e here size) refl
pick (suc (suc (suc (suc n)))) cs sign rest row e here longest size s = absurd (omega (arith, s.few, size))

pub longest_read : (cs sign rest : List ℕ) (row : ℕ) → cs ≡ sign ++ rest → IsMark sign row → Longest cs sign → mark cs ≡ Some (Mark row, rest)
longest_read cs sign rest row e here longest = pick (length sign) cs sign rest row e here longest refl (mark_is_sign sign row here)

-- ---- what is read is the longest mark

-- no mark of more than n characters is read
abbrev NoneAbove : ℕ → List ℕ → Type 0
NoneAbove n cs = (m : ℕ) → n < m → m ≤ 3 → mark_of m cs ≡ None

none_above_one : (cs : List ℕ) → mark_of 3 cs ≡ None → mark_of 2 cs ≡ None → NoneAbove 1 cs
none_above_one cs three two zero more few = absurd (omega arith)
none_above_one cs three two (suc zero) more few = absurd (omega arith)
none_above_one cs three two (suc (suc zero)) more few = two
none_above_one cs three two (suc (suc (suc zero))) more few = three
none_above_one cs three two (suc (suc (suc (suc m)))) more few = absurd (omega arith)

none_above_two : (cs : List ℕ) → mark_of 3 cs ≡ None → NoneAbove 2 cs
none_above_two cs three m more few =
    let same : 3 ≡ m = omega (arith, more, few) in
    subst (λ k. mark_of k cs ≡ None) same three

none_above_three : (cs : List ℕ) → NoneAbove 3 cs
none_above_three cs m more few = absurd (omega arith)

no_longer : (n : ℕ) (cs other behind : List ℕ) (kind : ℕ) → NoneAbove n cs → cs ≡ other ++ behind → IsMark other kind → n < length other → ⊥
no_longer n cs other behind kind none e here more =
    let read = exactly (length other) cs other behind kind e here refl in
    let few = (mark_is_sign other kind here).few in
    let not_read = none (length other) more few in
    cc

at_most : (n : ℕ) (cs other behind : List ℕ) (kind : ℕ) → NoneAbove n cs → cs ≡ other ++ behind → IsMark other kind → (n < length other) ⊎ (length other ≤ n) → length other ≤ length (take n cs)
at_most n cs other behind kind none e here (inr short) = omega (arith, length-take n cs, ap length e, length-append other behind)
at_most n cs other behind kind none e here (inl more) = absurd (no_longer n cs other behind kind none e here more)

is_read : (n : ℕ) (cs : List ℕ) (t : TokenKind × List ℕ) (found : Option ℕ) → NoneAbove n cs → row_of mark_rows (encode_utf8_all (take n cs)) ≡ found
    → with_rest (drop n cs) (option_map Mark found) ≡ Some t → IsToken cs t.0 t.1
is_read n cs t None none f e = absurd cc
is_read n cs t (Some row) none f e =
    let same : (Mark row, drop n cs) ≡ t = cc in
    subst (λ u. IsToken cs u.0 u.1) same (
      take n cs,
      sym (take-append-drop n cs),
      found_row mark_rows (encode_utf8_all (take n cs)) row f,
      λ other behind kind split here. at_most n cs other behind kind none split here (cases_lt n (length other)),
    )

or_cases : (a b : Option (TokenKind × List ℕ)) (t : TokenKind × List ℕ) → or_next a b ≡ Some t → (a ≡ Some t) ⊎ ((a ≡ None) × (b ≡ Some t))
or_cases None b t e = inr (refl, e)
or_cases (Some u) b t e = inl e

reads_at : (n : ℕ) (cs : List ℕ) (t : TokenKind × List ℕ) → NoneAbove n cs → mark_of n cs ≡ Some t → IsToken cs t.0 t.1
reads_at n cs t none e = is_read n cs t (row_of mark_rows (encode_utf8_all (take n cs))) none refl e

pub mark_is : (cs : List ℕ) (t : TokenKind × List ℕ) → mark cs ≡ Some t → IsToken cs t.0 t.1
mark_is cs t e = elim (or_cases (mark_of 3 cs) (or_next (mark_of 2 cs) (mark_of 1 cs)) t e) [
  | inl three ↦ reads_at 3 cs t (none_above_three cs) three
  | inr fewer ↦ elim (or_cases (mark_of 2 cs) (mark_of 1 cs) t fewer.1) [
    | inl two ↦ reads_at 2 cs t (none_above_two cs fewer.0) two
    | inr one ↦ reads_at 1 cs t (none_above_one cs fewer.0 one.0) one.1
  ]
]
