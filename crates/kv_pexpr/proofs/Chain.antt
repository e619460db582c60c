-- The turns of a chain, as the loop takes them.
use Rattle.std.proofs.Common.{◌≡◌, ℕ, suc, ◌+◌, ◌-◌, ◌<◌, ◌≤◌, ap, ◌∙◌, arith, List, refl, inl, inr}
use Rattle.std.specs.Prelude.{true, false, Some, None, nat_le}
use Rattle.std.proofs.lemmas.Bool.Decides.{leb_tells}
use Rattle.kv_lex.specs.declared.token.TokenKind.{TokenKind}
use Rattle.kv_raw.specs.RawTrees.{RawForm}
use Rattle.kv_raw.specs.RawCount.{raw_form_depth}
use Rattle.kv_pexpr.specs.Parse.{chain, eat_word, or_stay, behind, Read}

module _ (op : RawForm → RawForm → RawForm) (w : ℕ) (item : List TokenKind → Read RawForm) (n at : ℕ) (p : RawForm) (us : List TokenKind) where
  turn : ℕ → Read RawForm
  turn h = or_stay (Some (p, us)) (λ r. chain op (eat_word w) item h (n - (at + 1)) (op p r.0) r.1) (behind (nat_le (raw_form_depth p) h) (eat_word w us) item)

  unrolled : at < n → chain op (eat_word w) item (n - 1) (n - at) p us ≡ turn (n - 1)
  unfolding chain turn
  unrolled below = let e : n - at ≡ suc (n - (at + 1)) = omega arith in ap (λ k. chain op (eat_word w) item (n - 1) k p us) e

  pub too_high : at < n → n ≤ raw_form_depth p → chain op (eat_word w) item (n - 1) (n - at) p us ≡ Some (p, us)
  unfolding turn
  too_high below high = unrolled below ∙ elim (leb_tells (raw_form_depth p) (n - 1)) [ inl l ↦ absurd (omega (arith, l.1)) | inr l ↦ rw l.0 ]

  pub no_operator : at < n → None ≡ eat_word w us → chain op (eat_word w) item (n - 1) (n - at) p us ≡ Some (p, us)
  unfolding turn
  no_operator below none = unrolled below ∙ rw (← none) (elim (nat_le (raw_form_depth p) (n - 1)) as (λ b. or_stay (Some (p, us)) (λ r. chain op (eat_word w) item (n - 1) (n - (at + 1)) (op p r.0) r.1) (behind b None item) ≡ Some (p, us)) [ true ↦ refl | false ↦ refl ])

  pub no_operand : (vs : List TokenKind) → at < n → Some vs ≡ eat_word w us → item vs ≡ None → chain op (eat_word w) item (n - 1) (n - at) p us ≡ Some (p, us)
  unfolding turn
  no_operand vs below some none = unrolled below ∙ rw (← some) (elim (nat_le (raw_form_depth p) (n - 1)) as (λ b. or_stay (Some (p, us)) (λ r. chain op (eat_word w) item (n - 1) (n - (at + 1)) (op p r.0) r.1) (behind b (Some vs) item) ≡ Some (p, us)) [ true ↦ rw none | false ↦ refl ])

  pub one_turn : (vs ws : List TokenKind) (q : RawForm) → at < n → raw_form_depth p < n → Some vs ≡ eat_word w us → item vs ≡ Some (q, ws)
      → chain op (eat_word w) item (n - 1) (n - at) p us ≡ chain op (eat_word w) item (n - 1) (n - (at + 1)) (op p q) ws
  unfolding turn
  one_turn vs ws q below low some reads = unrolled below ∙ elim (leb_tells (raw_form_depth p) (n - 1)) [ inl l ↦ rw (l.0, ← some, reads) | inr l ↦ absurd (omega (arith, l.1)) ]

  pub no_turn : n ≤ at → chain op (eat_word w) item (n - 1) (n - at) p us ≡ Some (p, us)
  unfolding chain
  no_turn done = let e : n - at ≡ 0 = omega arith in ap (λ k. chain op (eat_word w) item (n - 1) k p us) e
