-- What an answer of a reader says of the steps before it.
use Rattle.std.proofs.Common.{ℕ, ◌≡◌, List, [], ◌∷◌, refl, subst, inl, inr}
use Rattle.std.specs.Prelude.{Bool, true, false, cond, Option, Some, None, ◌⊎◌, codes}
use Rattle.kv_lex.specs.Marks.{COLON, DOT}
use Rattle.kv_lex.specs.declared.token.TokenKind.{TokenKind}
use Rattle.kv_lex.specs.declared.token.TokenKind.TheVariants.{Word, Ident, Number, Mark}
use Rattle.kv_pexpr.specs.Parse.{or_stay, eat_mark}
use Rattle.kv_pexpr.proofs.Steps.{some_is, stay_or, mark_some}
use Rattle.kv_names.specs.Names.{Name}
use Rattle.kv_punit.specs.Parse.{eat_number, separator, colon, dot}

pub number_some : (ts : List TokenKind) (r : ℕ × List TokenKind) → eat_number ts ≡ Some r → ts ≡ Number r.0 ∷ r.1
number_some [] r e = cc
number_some (Word w ∷ ts) r e = cc
number_some (Ident n ∷ ts) r e = cc
number_some (Number n ∷ ts) r e = let f = some_is e in subst (λ (x : ℕ × List TokenKind). Number n ∷ ts ≡ Number x.0 ∷ x.1) f refl
number_some (Mark k ∷ ts) r e = cc

pub cond_some : {X : Type 0} (b : Bool) (x y : Option X) {z : X} → cond b x y ≡ Some z → ((b ≡ true) × (x ≡ Some z)) ⊎ (y ≡ Some z)
cond_some true x y e = inl (refl, e)
cond_some false x y e = inr e

pub separator_some : (ts : List TokenKind) (b : Name × List TokenKind) → separator ts ≡ Some b
    → ((ts ≡ Mark DOT ∷ b.1) × (b.0 ≡ codes ".")) ⊎ ((ts ≡ Mark COLON ∷ b.1) × (b.0 ≡ codes ":"))
separator_some ts b e = elim (stay_or (or_stay None colon (eat_mark COLON ts)) dot (eat_mark DOT ts) e) [
  | inl a ↦ (let f = some_is a.2 in inl (subst (λ (x : Name × List TokenKind). (ts ≡ Mark DOT ∷ x.1) × (x.0 ≡ codes ".")) f (mark_some DOT ts a.0 a.1, refl)))
  | inr a ↦ elim (stay_or None colon (eat_mark COLON ts) a.1) [
    | inl c ↦ (let f = some_is c.2 in inr (subst (λ (x : Name × List TokenKind). (ts ≡ Mark COLON ∷ x.1) × (x.0 ≡ codes ":")) f (mark_some COLON ts c.0 c.1, refl)))
    | inr c ↦ absurd (let f = c.1 in cc)
  ]
]
