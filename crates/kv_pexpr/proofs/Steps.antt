-- What an answer of the reading function says of the steps before it.
use Rattle.std.proofs.Common.{ℕ, ◌≡◌, ◌≤◌, List, [], ◌∷◌, refl, subst, inl, inr}
use Rattle.std.specs.Prelude.{cond, ◌==◌, Option, Some, None, ◌⊎◌, nat_le}
use Rattle.std.proofs.lemmas.Bool.Decides.{leb_tells, eqb_tells}
use Rattle.kv_lex.specs.declared.token.TokenKind.{TokenKind}
use Rattle.kv_lex.specs.declared.token.TokenKind.TheVariants.{Word, Ident, Number, Mark}
use Rattle.kv_pexpr.specs.Parse.{Read, given, or_stay, behind, eat_mark, eat_word, eat_name}

pub some_is : {A : Type 0} {x y : A} → Some x ≡ Some y → x ≡ y
some_is e = cc

pub given_some : {A B : Type 0} (o : Option A) (f : A → Option B) {y : B} → given o f ≡ Some y → (x : A) × (o ≡ Some x) × (f x ≡ Some y)
given_some None f e = cc
given_some (Some x) f e = (x, refl, e)

pub stay_or : {A B : Type 0} (x : B) (go : A → B) (o : Option A) {y : B} → or_stay x go o ≡ y → ((z : A) × (o ≡ Some z) × (go z ≡ y)) ⊎ ((o ≡ None) × (x ≡ y))
stay_or x go None e = inr (refl, e)
stay_or x go (Some z) e = inl (z, refl, e)

pub behind_some : {A : Type 0} (a h : ℕ) (o : Option (List TokenKind)) (item : List TokenKind → Read A) {y : A × List TokenKind} → behind (nat_le a h) o item ≡ Some y
    → (ts : List TokenKind) × (a ≤ h) × (o ≡ Some ts) × (item ts ≡ Some y)
behind_some {A} a h o item {y} e = elim (leb_tells a h) [
  | inl l ↦ (let f = rw l.0 at e in let r = given_some o item f in (r.0, l.1, r.1, r.2))
  | inr l ↦ absurd (let f = rw l.0 at e in cc)
]

pub chosen : {X : Type 0} (a b : ℕ) (x y : X) {z : X} → cond (a == b) x y ≡ z → ((a ≡ b) × (x ≡ z)) ⊎ (y ≡ z)
chosen a b x y e = elim (eqb_tells a b) [ inl t ↦ inl (t.1, rw t.0 at e) | inr t ↦ inr (rw t.0 at e) ]

pub if_some : {X : Type 0} (a b : ℕ) (x : X) {y : X} → cond (a == b) (Some x) None ≡ Some y → (a ≡ b) × (x ≡ y)
if_some {X} a b x {y} e = elim (eqb_tells a b) [
  | inl t ↦ (t.1, let f = rw t.0 at e in some_is f)
  | inr t ↦ absurd (let f = rw t.0 at e in cc)
]

pub mark_some : (m : ℕ) (ts us : List TokenKind) → eat_mark m ts ≡ Some us → ts ≡ Mark m ∷ us
mark_some m [] us e = cc
mark_some m (Word w ∷ ts) us e = cc
mark_some m (Ident n ∷ ts) us e = cc
mark_some m (Number n ∷ ts) us e = cc
mark_some m (Mark k ∷ ts) us e = let f = if_some k m ts e in cc (f.0, f.1)

pub word_some : (w : ℕ) (ts us : List TokenKind) → eat_word w ts ≡ Some us → ts ≡ Word w ∷ us
word_some w [] us e = cc
word_some w (Word k ∷ ts) us e = let f = if_some k w ts e in cc (f.0, f.1)
word_some w (Ident n ∷ ts) us e = cc
word_some w (Number n ∷ ts) us e = cc
word_some w (Mark k ∷ ts) us e = cc

pub name_some : (ts : List TokenKind) (r : List ℕ × List TokenKind) → eat_name ts ≡ Some r → ts ≡ Ident r.0 ∷ r.1
name_some [] r e = cc
name_some (Word w ∷ ts) r e = cc
name_some (Ident n ∷ ts) r e = let f = some_is e in subst (λ (x : List ℕ × List TokenKind). Ident n ∷ ts ≡ Ident x.0 ∷ x.1) f refl
name_some (Number n ∷ ts) r e = cc
name_some (Mark k ∷ ts) r e = cc
