-- What is read stands before the rest, and reads alike before any other tokens.
use Rattle.std.proofs.Common.{ℕ, ◌≡◌, ◌<◌, List, [], ◌∷◌, ◌++◌, length, refl, ap, ◌∙◌, sym, subst, arith, append_assoc}
use Rattle.std.proofs.lemmas.List.{length-append}
use Rattle.kv_lex.specs.declared.token.TokenKind.{TokenKind}
use Rattle.kv_lex.specs.declared.token.TokenKind.TheVariants.{Word, Ident, Mark}
use Rattle.kv_lex.specs.Marks.{OPEN, CLOSE, COMMA, COLON, DOT, EQUAL, ARROW, DOUBLE_ARROW}
use Rattle.kv_table.specs.Keywords.{TRUE, FALSE, NOT, AND, OR, ALL, EX}
use Rattle.kv_raw.specs.RawTrees.{RawTerm, RawTerms, RawForm}
use Rattle.kv_pexpr.specs.Grammar as g
use Rattle.kv_pexpr.specs.Grammar.{IsTerm, AreTerms, IsForm, IsImp, IsDis, IsCon, IsUna}

-- the tokens of a reading, which are a reading of their own before any others
pub record Front (Is : List TokenKind → List TokenKind → Type 0) (ts us : List TokenKind) : Type 0 where
  pub front : List TokenKind
  pub is : ts ≡ front ++ us
  pub some : 0 < length front
  pub again : (vs : List TokenKind) → Is (front ++ vs) vs

pub same_front : {A B : List TokenKind → List TokenKind → Type 0} {ts us : List TokenKind} → Front A ts us → ((ks ls : List TokenKind) → A ks ls → B ks ls) → Front B ts us
same_front a to = record { front = a.front; is = a.is; some = a.some; again = λ vs. to (a.front ++ vs) vs (a.again vs) }

-- tokens before a reading
front_behind : {A B : List TokenKind → List TokenKind → Type 0} {ts us : List TokenKind} (js : List TokenKind) → Front A ts us
    → ((ks ls : List TokenKind) → A ks ls → B (js ++ ks) ls) → Front B (js ++ ts) us
front_behind {B = B} {us = us} js a to = record {
  front = js ++ a.front;
  is = ap (λ ks. js ++ ks) a.is ∙ sym (append_assoc js a.front us);
  some = omega (arith, a.some, length-append js a.front);
  again = λ vs. subst (λ ks. B ks vs) (sym (append_assoc js a.front vs)) (to (a.front ++ vs) vs (a.again vs));
}

-- a token behind a reading
front_before : {A B : List TokenKind → List TokenKind → Type 0} {ts us : List TokenKind} (k : TokenKind) → Front A ts (k ∷ us)
    → ((ks ls : List TokenKind) → A ks (k ∷ ls) → B ks ls) → Front B ts us
front_before {B = B} {us = us} k a to = record {
  front = a.front ++ (k ∷ []);
  is = a.is ∙ sym (append_assoc a.front (k ∷ []) us);
  some = omega (arith, a.some, length-append a.front (k ∷ []));
  again = λ vs. subst (λ ks. B ks vs) (sym (append_assoc a.front (k ∷ []) vs)) (to (a.front ++ (k ∷ vs)) vs (a.again (k ∷ vs)));
}

-- two readings with a token between them
joined_front : {A B C : List TokenKind → List TokenKind → Type 0} {ts us vs : List TokenKind} (k : TokenKind) → Front A ts (k ∷ us) → Front B us vs
    → ((ks ls ms : List TokenKind) → A ks (k ∷ ls) → B ls ms → C ks ms) → Front C ts vs
joined_front {C = C} {vs = vs} k a b both = record {
  front = a.front ++ (k ∷ b.front);
  is = a.is ∙ ap (λ ks. a.front ++ (k ∷ ks)) b.is ∙ sym (append_assoc a.front (k ∷ b.front) vs);
  some = omega (arith, a.some, length-append a.front (k ∷ b.front));
  again = λ ws. subst (λ ks. C ks ws) (sym (append_assoc a.front (k ∷ b.front) ws)) (both (a.front ++ (k ∷ (b.front ++ ws))) (b.front ++ ws) ws (a.again (k ∷ (b.front ++ ws))) (b.again ws));
}

mutual
  pub term_front : {d : ℕ} {ts us : List TokenKind} {t : RawTerm} → IsTerm d ts t us → Front (λ ks ls. IsTerm d ks t ls) ts us
  term_front (g.name {n = n}) = record { front = Ident n ∷ []; is = refl; some = omega arith; again = λ vs. g.name }
  term_front (g.applied {d = d} {n = n} {args = args} r) =
      front_behind (Ident n ∷ Mark OPEN ∷ []) (front_before {B = λ ks ls. AreTerms d ks args (Mark CLOSE ∷ ls)} (Mark CLOSE) (terms_front r) (λ ks ls is. is)) (λ ks ls is. g.applied is)

  terms_front : {d : ℕ} {ts us : List TokenKind} {args : RawTerms} → AreTerms d ts args us → Front (λ ks ls. AreTerms d ks args ls) ts us
  terms_front (g.last r) = same_front (term_front r) (λ ks ls is. g.last is)
  terms_front (g.more r s) = joined_front (Mark COMMA) (term_front r) (terms_front s) (λ ks ls ms is next. g.more is next)

mutual
  pub form_front : {d : ℕ} {ts us : List TokenKind} {p : RawForm} → IsForm d ts p us → Front (λ ks ls. IsForm d ks p ls) ts us
  form_front (g.imp r) = same_front (imp_front r) (λ ks ls is. g.imp is)
  form_front (g.iff r s) = joined_front (Mark DOUBLE_ARROW) (imp_front r) (imp_front s) (λ ks ls ms is next. g.iff is next)

  pub imp_front : {d : ℕ} {ts us : List TokenKind} {p : RawForm} → IsImp d ts p us → Front (λ ks ls. IsImp d ks p ls) ts us
  imp_front (g.dis r) = same_front (dis_front r) (λ ks ls is. g.dis is)
  imp_front (g.arrow r s) = joined_front (Mark ARROW) (dis_front r) (imp_front s) (λ ks ls ms is next. g.arrow is next)

  dis_front : {d : ℕ} {ts us : List TokenKind} {p : RawForm} → IsDis d ts p us → Front (λ ks ls. IsDis d ks p ls) ts us
  dis_front (g.con r) = same_front (con_front r) (λ ks ls is. g.con is)
  dis_front (g.or r s) = joined_front (Word OR) (dis_front r) (con_front s) (λ ks ls ms is next. g.or is next)

  con_front : {d : ℕ} {ts us : List TokenKind} {p : RawForm} → IsCon d ts p us → Front (λ ks ls. IsCon d ks p ls) ts us
  con_front (g.una r) = same_front (una_front r) (λ ks ls is. g.una is)
  con_front (g.and r s) = joined_front (Word AND) (con_front r) (una_front s) (λ ks ls ms is next. g.and is next)

  una_front : {d : ℕ} {ts us : List TokenKind} {p : RawForm} → IsUna d ts p us → Front (λ ks ls. IsUna d ks p ls) ts us
  una_front (g.not r) = front_behind (Word NOT ∷ []) (una_front r) (λ ks ls is. g.not is)
  una_front (g.all {x = x} r) = front_behind (Word ALL ∷ Ident x.name ∷ Mark COLON ∷ Ident x.sort ∷ Mark DOT ∷ []) (una_front r) (λ ks ls is. g.all is)
  una_front (g.ex {x = x} r) = front_behind (Word EX ∷ Ident x.name ∷ Mark COLON ∷ Ident x.sort ∷ Mark DOT ∷ []) (una_front r) (λ ks ls is. g.ex is)
  una_front g.true = record { front = Word TRUE ∷ []; is = refl; some = omega arith; again = λ vs. g.true }
  una_front g.false = record { front = Word FALSE ∷ []; is = refl; some = omega arith; again = λ vs. g.false }
  una_front (g.brackets {d = d} {p = p} r) =
      front_behind (Mark OPEN ∷ []) (front_before {B = λ ks ls. IsForm d ks p (Mark CLOSE ∷ ls)} (Mark CLOSE) (form_front r) (λ ks ls is. is)) (λ ks ls is. g.brackets is)
  una_front (g.atom r) = same_front (term_front r) (λ ks ls is. g.atom is)
  una_front (g.equal r s) = joined_front (Mark EQUAL) (term_front r) (term_front s) (λ ks ls ms is next. g.equal is next)
