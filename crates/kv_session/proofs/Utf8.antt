-- The longest front of some bytes that is UTF-8.
use Rattle.std.proofs.Common.{ℕ, zero, suc, ◌≡◌, ◌≤◌, ◌<◌, List, length, take, refl, sym, ◌∙◌, arith, subst, inl, inr}
use Rattle.std.specs.Prelude.{Bool, true, false}
use Rattle.std.specs.Str.{IsUtf8, is_utf8, IsValidUpTo}
use Rattle.std.specs.Str.Lossy.{utf8_valid_len}
use Rattle.std.proofs.lemmas.Bool.{cases_lt}
use Rattle.std.proofs.lemmas.List.{take_all}
use Rattle.std.proofs.lemmas.Str.{IsUtf8-nil, IsUtf8-from_is_utf8, is_utf8-from_IsUtf8, utf8_valid_len-IsUtf8, utf8_valid_len-IsValidUpTo}

record Front (bytes : List ℕ) : Type 0 where
  pub size : ℕ
  pub fits : size ≤ length bytes
  pub front : IsUtf8 (take size bytes)
  pub longest : (m : ℕ) → size < m → m ≤ length bytes → IsUtf8 (take m bytes) → ⊥

-- nothing longer than k is UTF-8
abbrev NoLonger : List ℕ → ℕ → Type 0
NoLonger bytes k = (m : ℕ) → k < m → m ≤ length bytes → IsUtf8 (take m bytes) → ⊥

one_less : (bytes : List ℕ) (k : ℕ) → is_utf8 (take (suc k) bytes) ≡ false → NoLonger bytes (suc k) → NoLonger bytes k
one_less bytes k not none m more fits is = elim (cases_lt (suc k) m) [
  | inl longer ↦ none m longer fits is
  | inr shorter ↦ absurd (let same : m ≡ suc k = omega arith in let e = is_utf8-from_IsUtf8 (take (suc k) bytes) (subst (λ n. IsUtf8 (take n bytes)) same is) in cc)
]

tell : (bytes : List ℕ) (k : ℕ) (b : Bool) → is_utf8 (take (suc k) bytes) ≡ b → suc k ≤ length bytes → NoLonger bytes (suc k) → (NoLonger bytes k → Front bytes) → Front bytes
tell bytes k true is fits none less = record { size = suc k; fits = fits; front = IsUtf8-from_is_utf8 (take (suc k) bytes) is; longest = none }
tell bytes k false not fits none less = less (one_less bytes k not none)

find : (bytes : List ℕ) (k : ℕ) → k ≤ length bytes → NoLonger bytes k → Front bytes
find bytes zero fits none = record { size = 0; fits = fits; front = IsUtf8-nil; longest = none }
find bytes (suc k) fits none = tell bytes k (is_utf8 (take (suc k) bytes)) refl fits none (λ less. find bytes k (omega arith) less)

pub valid_front : (bytes : List ℕ) → IsUtf8 (take (utf8_valid_len bytes) bytes)
valid_front bytes =
    let f = find bytes (length bytes) (omega arith) (λ m more fits is. absurd (omega arith)) in
    elim (cases_lt f.size (length bytes)) [
      | inl shorter ↦ (let valid : IsValidUpTo bytes f.size = record {
        short = shorter;
        front = f.front;
        longest = λ m more is. elim (cases_lt (length bytes) m) [
          | inl past ↦ f.longest (length bytes) shorter (omega arith) (subst IsUtf8 (take_all m bytes (omega arith) ∙ sym (take_all (length bytes) bytes (omega arith))) is)
          | inr within ↦ f.longest m more within is
        ];
      } in
          subst (λ n. IsUtf8 (take n bytes)) (sym (utf8_valid_len-IsValidUpTo bytes f.size valid)) f.front)
      | inr whole ↦ (let all : take f.size bytes ≡ bytes = take_all f.size bytes (omega arith) in
          let is = subst IsUtf8 all f.front in
          subst (λ n. IsUtf8 (take n bytes)) (sym (utf8_valid_len-IsUtf8 bytes is)) (subst IsUtf8 (sym (take_all (length bytes) bytes (omega arith))) is))
    ]
