-- What the function reads as a formula, the grammar reads.
use Rattle.std.proofs.Common.{ℕ, zero, suc, ◌≡◌, ◌≤◌, ◌<◌, List, [], ◌∷◌, length, refl, arith, subst, inl, inr}
use Rattle.std.specs.Prelude.{Some, None, ◌⊎◌, if◌then◌else◌, ◌==◌, nat_le}
use Rattle.kv_lex.specs.declared.token.TokenKind.{TokenKind}
use Rattle.kv_lex.specs.declared.token.TokenKind.TheVariants.{Word, Ident, Number, Mark}
use Rattle.kv_lex.specs.Marks.{OPEN, CLOSE, COLON, DOT, EQUAL, ARROW, DOUBLE_ARROW}
use Rattle.kv_table.specs.Keywords.{TRUE, FALSE, NOT, AND, OR, ALL, EX}
use Rattle.kv_raw.specs.RawTrees.{RawTerm, RawForm}
use Rattle.kv_raw.specs.RawCount.{raw_term_depth, raw_form_depth}
use Rattle.kv_names.specs.declared.symbols.Var.{Var}
use Rattle.kv_pexpr.specs.declared.levels.Level.{Level}
use Rattle.kv_pexpr.specs.declared.levels.Level.TheVariants as level
use Rattle.kv_pexpr.specs.Grammar as g
use Rattle.kv_pexpr.specs.Grammar.{IsTerm, IsForm, IsImp, IsDis, IsCon, IsUna}
use Rattle.kv_pexpr.specs.Parse.{given, behind, eat_mark, eat_word, eat_name, closed, term, atom_of, equated, equation, sort_after, colon_after, bound_var, bound, binder, bracketed, una_by, chain, lefts, right, una_rule, con_rule, dis_rule, imp_rule, form_rule, rule, read, read_map, Read, Parser}
use Rattle.kv_pexpr.proofs.Steps.{some_is, given_some, stay_or, behind_some, chosen, mark_some, word_some, name_some}
use Rattle.kv_pexpr.proofs.TermLaws.{sound_term, term_takes}

abbrev pub Is : Level → ℕ → List TokenKind → RawForm → List TokenKind → Type 0
Is level.Form = IsForm
Is level.Imp = IsImp
Is level.Dis = IsDis
Is level.Con = IsCon
Is level.Una = IsUna

abbrev pub FormIs : Level → ℕ → ℕ → List TokenKind → RawForm × List TokenKind → Type 0
FormIs l d h ts r = Is l d ts r.0 r.1 × (raw_form_depth r.0 ≤ h)

abbrev pub Sounds : Level → Parser → Type 0
Sounds l parse = (d h : ℕ) (ts : List TokenKind) (r : RawForm × List TokenKind) → parse d h ts ≡ Some r → FormIs l d h ts r

-- ---- atoms, equations and variables

atom_is : {d : ℕ} {ts us : List TokenKind} {t : RawTerm} → IsTerm d ts t us → (h : ℕ) → raw_term_depth t ≤ h → FormIs level.Una d h ts (atom_of t, us)
atom_is g.name h low = (g.atom g.name, low)
atom_is (g.applied r) h low = (g.atom (g.applied r), low)

sound_equation : (d h : ℕ) (ts : List TokenKind) (r : RawForm × List TokenKind) → equation d h ts ≡ Some r → FormIs level.Una d (suc h) ts r
sound_equation d h ts r e =
    let first = given_some (term (suc h) d ts) (equated d h) e in
    let t = sound_term (suc h) d ts first.0 first.1 in
    elim (stay_or (Some (atom_of first.0.0, first.0.1)) (λ s. Some (RawForm.Equal first.0.0 s.0, s.1)) (behind (nat_le (raw_term_depth first.0.0) h) (eat_mark EQUAL first.0.1) (term h d)) first.2) [
      | inl s ↦ (let b = behind_some (raw_term_depth first.0.0) h (eat_mark EQUAL first.0.1) (term h d) s.1 in
          let u = sound_term h d b.0 s.0 b.3 in
          let t' = rw (mark_some EQUAL first.0.1 b.0 b.2) at t.0 in
          subst (FormIs level.Una d (suc h) ts) (some_is s.2) (g.equal t' u.0, omega (arith, b.1, u.1)))
      | inr s ↦ subst (FormIs level.Una d (suc h) ts) (some_is s.1) (atom_is t.0 (suc h) t.1)
    ]

var_some : (ts : List TokenKind) (r : Var × List TokenKind) → bound_var ts ≡ Some r → ts ≡ Ident r.0.name ∷ Mark COLON ∷ Ident r.0.sort ∷ Mark DOT ∷ r.1
var_some ts r e =
    let x = given_some (eat_name ts) colon_after e in
    let us = given_some (eat_mark COLON x.0.1) (λ us. given (eat_name us) (sort_after x.0.0)) x.2 in
    let s = given_some (eat_name us.0) (sort_after x.0.0) us.2 in
    let vs = given_some (eat_mark DOT s.0.1) (λ us. Some (record { name = x.0.0; sort = s.0.0 }, us)) s.2 in
    rw (name_some ts x.0 x.1, mark_some COLON x.0.1 us.0 us.1, name_some us.0 s.0 s.1, mark_some DOT s.0.1 vs.0 vs.1)
    (subst (λ (y : Var × List TokenKind). Ident x.0.0 ∷ Mark COLON ∷ Ident s.0.0 ∷ Mark DOT ∷ vs.0 ≡ Ident y.0.name ∷ Mark COLON ∷ Ident y.0.sort ∷ Mark DOT ∷ y.1) (some_is vs.2) refl)

-- ---- operators

-- what holds of the first tree and goes on at each turn, holds of the last
sound_chain : (op : RawForm → RawForm → RawForm) (w : ℕ) (item : List TokenKind → Read RawForm) (h : ℕ) (R : RawForm → List TokenKind → Type 0)
    → ((p q : RawForm) (us vs : List TokenKind) → R p (Word w ∷ us) → raw_form_depth p ≤ h → item us ≡ Some (q, vs) → R (op p q) vs)
    → (k : ℕ) (p : RawForm) (us : List TokenKind) (r : RawForm × List TokenKind) → chain op (eat_word w) item h k p us ≡ Some r → R p us → R r.0 r.1
unfolding chain
sound_chain op w item h R turn zero p us r e is = subst (λ x. R x.0 x.1) (some_is e) is
sound_chain op w item h R turn (suc k) p us r e is =
    elim (stay_or (Some (p, us)) (λ s. chain op (eat_word w) item h k (op p s.0) s.1) (behind (nat_le (raw_form_depth p) h) (eat_word w us) item) e) [
      | inl s ↦ (let b = behind_some (raw_form_depth p) h (eat_word w us) item s.1 in
          sound_chain op w item h R turn k (op p s.0.0) s.0.1 r s.2 (turn p s.0.0 b.0 s.0.1 (subst (R p) (word_some w us b.0 b.2) is) b.1 b.3))
      | inr s ↦ subst (λ x. R x.0 x.1) (some_is s.1) is
    ]

-- an operator and an operand behind the tree
record Operated (op : RawForm → RawForm → RawForm) (m h : ℕ) (item : List TokenKind → Read RawForm) (p r : RawForm × List TokenKind) : Type 0 where
  pub behind : List TokenKind
  pub operand : RawForm × List TokenKind
  pub low : raw_form_depth p.0 ≤ h
  pub found : p.1 ≡ Mark m ∷ behind
  pub reads : item behind ≡ Some operand
  pub made : ◌≡◌ {A = RawForm × List TokenKind} (op p.0 operand.0, operand.1) r

sound_right : (op : RawForm → RawForm → RawForm) (m h : ℕ) (item : List TokenKind → Read RawForm) (p r : RawForm × List TokenKind) → right op m h item p ≡ Some r
    → Operated op m h item p r ⊎ (p ≡ r)
sound_right op m h item p r e = elim (stay_or (Some (p.0, p.1)) (λ s. Some (op p.0 s.0, s.1)) (behind (nat_le (raw_form_depth p.0) h) (eat_mark m p.1) item) e) [
  | inl s ↦ (let b = behind_some (raw_form_depth p.0) h (eat_mark m p.1) item s.1 in
      inl (record { behind = b.0; operand = s.0; low = b.1; found = mark_some m p.1 b.0 b.2; reads = b.3; made = some_is s.2 }))
  | inr s ↦ inr (some_is s.1)
]

-- ---- rules

module _ (r : Level → Parser) (each : (l : Level) → Sounds l (r l)) where
  sound_not : (d h : ℕ) (ts : List TokenKind) (s : RawForm × List TokenKind) → read_map RawForm.Not (r level.Una d h ts) ≡ Some s → FormIs level.Una d (suc h) (Word NOT ∷ ts) s
  sound_not d h ts s e =
      let p = given_some (r level.Una d h ts) (λ q. Some (RawForm.Not q.0, q.1)) e in
      let is = each level.Una d h ts p.0 p.1 in
      subst (FormIs level.Una d (suc h) (Word NOT ∷ ts)) (some_is p.2) (g.not is.0, omega (arith, is.1))

  sound_binder : (quantifier : Var → RawForm → RawForm) (w d h : ℕ)
      → ((x : Var) (ts us : List TokenKind) (p : RawForm) → IsUna d ts p us → raw_form_depth p ≤ h
      → FormIs level.Una d (suc h) (Word w ∷ Ident x.name ∷ Mark COLON ∷ Ident x.sort ∷ Mark DOT ∷ ts) (quantifier x p, us))
      → (ts : List TokenKind) (s : RawForm × List TokenKind) → binder quantifier (r level.Una d h) ts ≡ Some s → FormIs level.Una d (suc h) (Word w ∷ ts) s
  sound_binder quantifier w d h made ts s e =
      let x = given_some (bound_var ts) (bound quantifier (r level.Una d h)) e in
      let p = given_some (r level.Una d h x.0.1) (λ q. Some (quantifier x.0.0 q.0, q.1)) x.2 in
      let is = each level.Una d h x.0.1 p.0 p.1 in
      rw (var_some ts x.0 x.1)
      (subst (FormIs level.Una d (suc h) (Word w ∷ Ident x.0.0.name ∷ Mark COLON ∷ Ident x.0.0.sort ∷ Mark DOT ∷ x.0.1)) (some_is p.2) (made x.0.0 x.0.1 p.0.1 p.0.0 is.0 is.1))

  sound_bracketed : (d h : ℕ) (ts : List TokenKind) (s : RawForm × List TokenKind) → bracketed (r level.Form) d h ts ≡ Some s → FormIs level.Una d h (Mark OPEN ∷ ts) s
  sound_bracketed zero h ts s e = cc
  sound_bracketed (suc d) h ts s e =
      let p = given_some (r level.Form d h ts) closed e in
      let close = given_some (eat_mark CLOSE p.0.1) (λ us. Some (p.0.0, us)) p.2 in
      let is = each level.Form d h ts p.0 p.1 in
      let is' = rw (mark_some CLOSE p.0.1 close.0 close.1) at is.0 in
      subst (FormIs level.Una (suc d) h (Mark OPEN ∷ ts)) (some_is close.2) (g.brackets is', is.1)

  -- the two words that stand for themselves
  sound_constant : (d h w : ℕ) (ts : List TokenKind) (s : RawForm × List TokenKind)
      → (if w == TRUE then Some (RawForm.True, ts) else (if w == FALSE then Some (RawForm.False, ts) else None)) ≡ Some s → FormIs level.Una d (suc h) (Word w ∷ ts) s
  sound_constant d h w ts s e = elim (chosen w TRUE (Some (RawForm.True, ts)) (if w == FALSE then Some (RawForm.False, ts) else None) e) [
    | inl t ↦ rw t.0 (subst (FormIs level.Una d (suc h) (Word TRUE ∷ ts)) (some_is t.1) (g.true, omega arith))
    | inr t ↦ elim (chosen w FALSE (Some (RawForm.False, ts)) None t) [
      | inl f ↦ rw f.0 (subst (FormIs level.Una d (suc h) (Word FALSE ∷ ts)) (some_is f.1) (g.false, omega arith))
      | inr f ↦ cc
    ]
  ]

  sound_quantified : (d h w : ℕ) (ts : List TokenKind) (s : RawForm × List TokenKind)
      → (if w == ALL then binder RawForm.All (r level.Una d h) ts else (if w == EX then binder RawForm.Ex (r level.Una d h) ts else (if w == TRUE then Some (RawForm.True, ts) else (if w == FALSE then Some (RawForm.False, ts) else None)))) ≡ Some s
      → FormIs level.Una d (suc h) (Word w ∷ ts) s
  sound_quantified d h w ts s e =
      elim (chosen w ALL (binder RawForm.All (r level.Una d h) ts) (if w == EX then binder RawForm.Ex (r level.Una d h) ts else (if w == TRUE then Some (RawForm.True, ts) else (if w == FALSE then Some (RawForm.False, ts) else None))) e) [
        | inl a ↦ rw a.0 (sound_binder RawForm.All ALL d h (λ x ts us p is low. (g.all is, omega (arith, low))) ts s a.1)
        | inr a ↦ elim (chosen w EX (binder RawForm.Ex (r level.Una d h) ts) (if w == TRUE then Some (RawForm.True, ts) else (if w == FALSE then Some (RawForm.False, ts) else None)) a) [
          | inl x ↦ rw x.0 (sound_binder RawForm.Ex EX d h (λ x ts us p is low. (g.ex is, omega (arith, low))) ts s x.1)
          | inr x ↦ sound_constant d h w ts s x
        ]
      ]

  sound_word : (d h w : ℕ) (ts : List TokenKind) (s : RawForm × List TokenKind) → una_by (r level.Form) (r level.Una) d h (Word w ∷ ts) ≡ Some s → FormIs level.Una d (suc h) (Word w ∷ ts) s
  sound_word d h w ts s e =
      elim (chosen w NOT (read_map RawForm.Not (r level.Una d h ts)) (if w == ALL then binder RawForm.All (r level.Una d h) ts else (if w == EX then binder RawForm.Ex (r level.Una d h) ts else (if w == TRUE then Some (RawForm.True, ts) else (if w == FALSE then Some (RawForm.False, ts) else None)))) e) [
        | inl n ↦ rw n.0 (sound_not d h ts s n.1)
        | inr n ↦ sound_quantified d h w ts s n
      ]

  pub sound_una : Sounds level.Una (una_rule r)
  sound_una d zero ts s e = cc
  sound_una d (suc h) [] s e = cc
  sound_una d (suc h) (Word w ∷ ts) s e = sound_word d h w ts s e
  sound_una d (suc h) (Ident n ∷ ts) s e = sound_equation d h (Ident n ∷ ts) s e
  sound_una d (suc h) (Number k ∷ ts) s e = cc
  sound_una d (suc h) (Mark m ∷ ts) s e = elim (chosen m OPEN (bracketed (r level.Form) d (suc h) ts) None e) [
    | inl o ↦ rw o.0 (sound_bracketed d (suc h) ts s o.1)
    | inr o ↦ cc
  ]

  pub sound_con : Sounds level.Con (con_rule r)
  sound_con d zero ts s e = cc
  sound_con d (suc h) ts s e =
      let first = given_some (una_rule r d (suc h) ts) (lefts RawForm.And AND h (r level.Una d h)) e in
      let is = sound_una d (suc h) ts first.0 first.1 in
      sound_chain RawForm.And AND (r level.Una d h) h (λ p us. FormIs level.Con d (suc h) ts (p, us))
      (λ p q us vs so_far low reads.
      let next = each level.Una d h us (q, vs) reads in
      (g.and so_far.0 next.0, omega (arith, low, next.1)))
      (suc h) first.0.0 first.0.1 s first.2 (g.una is.0, is.1)

  pub sound_dis : Sounds level.Dis (dis_rule r)
  sound_dis d zero ts s e = cc
  sound_dis d (suc h) ts s e =
      let first = given_some (con_rule r d (suc h) ts) (lefts RawForm.Or OR h (r level.Con d h)) e in
      let is = sound_con d (suc h) ts first.0 first.1 in
      sound_chain RawForm.Or OR (r level.Con d h) h (λ p us. FormIs level.Dis d (suc h) ts (p, us))
      (λ p q us vs so_far low reads.
      let next = each level.Con d h us (q, vs) reads in
      (g.or so_far.0 next.0, omega (arith, low, next.1)))
      (suc h) first.0.0 first.0.1 s first.2 (g.con is.0, is.1)

  pub sound_imp : Sounds level.Imp (imp_rule r)
  sound_imp d zero ts s e = cc
  sound_imp d (suc h) ts s e =
      let first = given_some (dis_rule r d (suc h) ts) (right RawForm.Imp ARROW h (r level.Imp d h)) e in
      let is = sound_dis d (suc h) ts first.0 first.1 in
      elim (sound_right RawForm.Imp ARROW h (r level.Imp d h) first.0 s first.2) [
        | inl b ↦ (let q = each level.Imp d h b.behind b.operand b.reads in
            let is' = rw b.found at is.0 in
            subst (FormIs level.Imp d (suc h) ts) b.made (g.arrow is' q.0, omega (arith, b.low, q.1)))
        | inr b ↦ subst (FormIs level.Imp d (suc h) ts) b (g.dis is.0, is.1)
      ]

  pub sound_form : Sounds level.Form (form_rule r)
  sound_form d zero ts s e = cc
  sound_form d (suc h) ts s e =
      let first = given_some (imp_rule r d (suc h) ts) (right RawForm.Iff DOUBLE_ARROW h (r level.Imp d h)) e in
      let is = sound_imp d (suc h) ts first.0 first.1 in
      elim (sound_right RawForm.Iff DOUBLE_ARROW h (r level.Imp d h) first.0 s first.2) [
        | inl b ↦ (let q = each level.Imp d h b.behind b.operand b.reads in
            let is' = rw b.found at is.0 in
            subst (FormIs level.Form d (suc h) ts) b.made (g.iff is' q.0, omega (arith, b.low, q.1)))
        | inr b ↦ subst (FormIs level.Form d (suc h) ts) b (g.imp is.0, is.1)
      ]

  pub sound_rule : (l : Level) → Sounds l (rule r l)
  sound_rule level.Form = sound_form
  sound_rule level.Imp = sound_imp
  sound_rule level.Dis = sound_dis
  sound_rule level.Con = sound_con
  sound_rule level.Una = sound_una

pub sound_read : (n : ℕ) (l : Level) → Sounds l (read n l)
unfolding read
sound_read zero l d h ts s e = cc
sound_read (suc n) l d h ts s e = sound_rule (read n) (sound_read n) l d h ts s e

-- a reading takes a token at least
mutual
  pub form_takes : {d : ℕ} {ts us : List TokenKind} {p : RawForm} → IsForm d ts p us → length us < length ts
  form_takes (g.imp r) = imp_takes r
  form_takes (g.iff r s) = omega (arith, imp_takes r, imp_takes s)

  pub imp_takes : {d : ℕ} {ts us : List TokenKind} {p : RawForm} → IsImp d ts p us → length us < length ts
  imp_takes (g.dis r) = dis_takes r
  imp_takes (g.arrow r s) = omega (arith, dis_takes r, imp_takes s)

  pub dis_takes : {d : ℕ} {ts us : List TokenKind} {p : RawForm} → IsDis d ts p us → length us < length ts
  dis_takes (g.con r) = con_takes r
  dis_takes (g.or r s) = omega (arith, dis_takes r, con_takes s)

  pub con_takes : {d : ℕ} {ts us : List TokenKind} {p : RawForm} → IsCon d ts p us → length us < length ts
  con_takes (g.una r) = una_takes r
  con_takes (g.and r s) = omega (arith, con_takes r, una_takes s)

  pub una_takes : {d : ℕ} {ts us : List TokenKind} {p : RawForm} → IsUna d ts p us → length us < length ts
  una_takes (g.not r) = omega (arith, una_takes r)
  una_takes (g.all r) = omega (arith, una_takes r)
  una_takes (g.ex r) = omega (arith, una_takes r)
  una_takes g.true = omega arith
  una_takes g.false = omega arith
  una_takes (g.brackets r) = omega (arith, form_takes r)
  una_takes (g.atom r) = term_takes r
  una_takes (g.equal r s) = omega (arith, term_takes r, term_takes s)

pub takes : (l : Level) (d : ℕ) (ts us : List TokenKind) (p : RawForm) → Is l d ts p us → length us < length ts
takes level.Form d ts us p r = form_takes r
takes level.Imp d ts us p r = imp_takes r
takes level.Dis d ts us p r = dis_takes r
takes level.Con d ts us p r = con_takes r
takes level.Una d ts us p r = una_takes r
