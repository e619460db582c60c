-- What the grammar reads as a formula, the function reads.
use Rattle.std.proofs.Common.{ℕ, zero, suc, ◌+◌, ◌-◌, ◌≡◌, ◌≤◌, ◌<◌, List, ◌∷◌, refl, ap, ◌∙◌, arith, lit<}
use Rattle.std.specs.Prelude.{Bool, true, false, Some, None, nat_le}
use Rattle.std.proofs.lemmas.Bool.{le-leb}
use Rattle.kv_lex.specs.declared.token.TokenKind.{TokenKind}
use Rattle.kv_lex.specs.declared.token.TokenKind.TheVariants.{Word, Mark}
use Rattle.kv_lex.specs.Marks.{CLOSE, EQUAL, ARROW, DOUBLE_ARROW}
use Rattle.kv_table.specs.Keywords.{AND, OR}
use Rattle.kv_raw.specs.RawTrees.{RawTerm, RawForm}
use Rattle.kv_raw.specs.RawCount.{raw_term_depth, raw_form_depth}
use Rattle.kv_pexpr.specs.declared.levels.Level.{Level}
use Rattle.kv_pexpr.specs.declared.levels.Level.TheVariants as level
use Rattle.kv_pexpr.specs.Grammar as g
use Rattle.kv_pexpr.specs.Grammar.{IsTerm, IsForm, IsImp, IsDis, IsCon, IsUna}
use Rattle.kv_pexpr.specs.Parse.{or_stay, behind, eat_word, equation, una_by, chain, read, rule, Read, Parser}
use Rattle.kv_pexpr.proofs.Binds.{binds, no_mark, no_word}
use Rattle.kv_pexpr.proofs.TermLaws.{exact_term}

-- no tree is of height 0
mutual
  pub form_high : {d : ℕ} {ts us : List TokenKind} {p : RawForm} → IsForm d ts p us → 0 < raw_form_depth p
  form_high (g.imp r) = imp_high r
  form_high (g.iff r s) = omega arith

  pub imp_high : {d : ℕ} {ts us : List TokenKind} {p : RawForm} → IsImp d ts p us → 0 < raw_form_depth p
  imp_high (g.dis r) = dis_high r
  imp_high (g.arrow r s) = omega arith

  pub dis_high : {d : ℕ} {ts us : List TokenKind} {p : RawForm} → IsDis d ts p us → 0 < raw_form_depth p
  dis_high (g.con r) = con_high r
  dis_high (g.or r s) = omega arith

  pub con_high : {d : ℕ} {ts us : List TokenKind} {p : RawForm} → IsCon d ts p us → 0 < raw_form_depth p
  con_high (g.una r) = una_high r
  con_high (g.and r s) = omega arith

  pub una_high : {d : ℕ} {ts us : List TokenKind} {p : RawForm} → IsUna d ts p us → 0 < raw_form_depth p
  una_high (g.not r) = omega arith
  una_high (g.all r) = omega arith
  una_high (g.ex r) = omega arith
  una_high g.true = omega arith
  una_high g.false = omega arith
  una_high (g.brackets r) = form_high r
  una_high (g.atom r) = omega arith
  una_high (g.equal r s) = omega arith

-- what a rule gives wherever the tree fits, the recursion gives
pub lowered : (P : Read RawForm → Type 0) (l : Level) (d : ℕ) (ts : List TokenKind) (p : RawForm)
    → ((n h : ℕ) → raw_form_depth p ≤ suc h → d + h ≤ n → P (rule (read n) l d (suc h) ts))
    → 0 < raw_form_depth p → (n h : ℕ) → raw_form_depth p ≤ h → d + h ≤ n → P (read n l d h ts)
unfolding read
lowered P l d ts p each high zero h low fits = absurd (omega arith)
lowered P l d ts p each high (suc n) zero low fits = absurd (omega arith)
lowered P l d ts p each high (suc n) (suc h) low fits = each n h low (omega arith)

-- without an operator behind it, what was read stays
stays : {A B : Type 0} (x : B) (go : A × List TokenKind → B) (item : List TokenKind → Read A) (b : Bool) → or_stay x go (behind b None item) ≡ x
stays x go item true = refl
stays x go item false = refl

-- a term begins with a name
pub by_term : {d : ℕ} {ts us : List TokenKind} {t : RawTerm} → IsTerm d ts t us → (form una : Parser) (e h : ℕ) → una_by form una e h ts ≡ equation e h ts
by_term g.name form una e h = refl
by_term (g.applied r) form una e h = refl

-- the rule reads the tree wherever it fits
abbrev pub Exact : Level → ℕ → List TokenKind → RawForm → List TokenKind → Type 0
Exact l d ts p us = (n h : ℕ) → raw_form_depth p ≤ suc h → d + h ≤ n → rule (read n) l d (suc h) ts ≡ Some (p, us)

-- without an operator behind it, a chain ends
chain_stops : (op : RawForm → RawForm → RawForm) (w : ℕ) (item : List TokenKind → Read RawForm) (h k : ℕ) (p : RawForm) (us : List TokenKind)
    → eat_word w us ≡ None → chain op (eat_word w) item h k p us ≡ Some (p, us)
unfolding chain
chain_stops op w item h zero p us stop = refl
chain_stops op w item h (suc k) p us stop = rw stop (stays _ _ _ (nat_le (raw_form_depth p) h))

-- one more turn
chain_goes : (op : RawForm → RawForm → RawForm) (w : ℕ) (item : List TokenKind → Read RawForm) (h k : ℕ) (p q : RawForm) (us vs ws : List TokenKind)
    → raw_form_depth p ≤ h → eat_word w us ≡ Some vs → item vs ≡ Some (q, ws) → chain op (eat_word w) item h (suc k) p us ≡ chain op (eat_word w) item h k (op p q) ws
unfolding chain
chain_goes op w item h k p q us vs ws low found reads = rw (le-leb (raw_form_depth p) h low, found, reads)

-- the tree is read on the way, and turns are left for all the height above it
pub record Reached (l : Level) (op : RawForm → RawForm → RawForm) (w d n h : ℕ) (item : List TokenKind → Read RawForm) (ts : List TokenKind) (p : RawForm) (us : List TokenKind) : Type 0 where
  pub turns : ℕ
  pub enough : suc h ≤ turns + raw_form_depth p
  pub reached : rule (read n) l d (suc h) ts ≡ chain op (eat_word w) item h turns p us

pub reached_stops : {l : Level} {op : RawForm → RawForm → RawForm} {w d n h : ℕ} {item : List TokenKind → Read RawForm} {ts us : List TokenKind} {p : RawForm}
    → Reached l op w d n h item ts p us → eat_word w us ≡ None → rule (read n) l d (suc h) ts ≡ Some (p, us)
reached_stops {op = op} {w = w} {h = h} {item = item} {us = us} {p = p} r stop = r.reached ∙ chain_stops op w item h r.turns p us stop

pub reached_goes : {l : Level} {op : RawForm → RawForm → RawForm} {w d n h : ℕ} {item : List TokenKind → Read RawForm} {ts us vs : List TokenKind} {p q : RawForm}
    → Reached l op w d n h item ts p (Word w ∷ us) → eat_word w (Word w ∷ us) ≡ Some us → raw_form_depth p ≤ h → item us ≡ Some (q, vs)
    → raw_form_depth p < raw_form_depth (op p q) → Reached l op w d n h item ts (op p q) vs
reached_goes {op = op} {w = w} {h = h} {item = item} {us = us} {vs = vs} {p = p} {q = q} r found low reads higher =
    let some : r.turns ≡ suc (r.turns - 1) = omega (arith, r.enough) in
    record {
      turns = r.turns - 1;
      enough = omega (arith, r.enough);
      reached = r.reached ∙ ap (λ k. chain op (eat_word w) item h k p (Word w ∷ us)) some ∙ chain_goes op w item h (r.turns - 1) p q (Word w ∷ us) us vs low found reads;
    }

mutual
  pub exact_form : {d : ℕ} {ts us : List TokenKind} {p : RawForm} → IsForm d ts p us → 5 < binds us → Exact level.Form d ts p us
  exact_form (g.imp {us = us} {p = p} r) stop n h low fits = rw (exact_imp r (omega arith) n h low fits, no_mark DOUBLE_ARROW us stop) (stays _ _ _ (nat_le (raw_form_depth p) h))
  exact_form (g.iff {d = d} {us = us} {vs = vs} {p = p} {q = q} r s) stop n h low fits =
      rw (
        exact_imp r (lit< tt) n h (omega arith) fits,
        le-leb (raw_form_depth p) h (omega arith),
        lowered (λ x. x ≡ Some (q, vs)) level.Imp d us q (exact_imp s (omega arith)) (imp_high s) n h (omega arith) fits,
      )

  pub exact_imp : {d : ℕ} {ts us : List TokenKind} {p : RawForm} → IsImp d ts p us → 4 < binds us → Exact level.Imp d ts p us
  exact_imp (g.dis {us = us} {p = p} r) stop n h low fits =
      rw (reached_stops (reach_dis r (omega arith) n h low fits) (no_word OR us (omega arith)), no_mark ARROW us stop) (stays _ _ _ (nat_le (raw_form_depth p) h))
  exact_imp (g.arrow {d = d} {us = us} {vs = vs} {p = p} {q = q} r s) stop n h low fits =
      rw (
        reached_stops (reach_dis r (lit< tt) n h (omega arith) fits) refl,
        le-leb (raw_form_depth p) h (omega arith),
        lowered (λ x. x ≡ Some (q, vs)) level.Imp d us q (exact_imp s stop) (imp_high s) n h (omega arith) fits,
      )

  pub reach_dis : {d : ℕ} {ts us : List TokenKind} {p : RawForm} → IsDis d ts p us → 2 < binds us → (n h : ℕ) → raw_form_depth p ≤ suc h → d + h ≤ n
      → Reached level.Dis RawForm.Or OR d n h (read n level.Con d h) ts p us
  reach_dis (g.con {us = us} {p = p} r) stop n h low fits = record { turns = suc h; enough = omega arith; reached = rw (reached_stops (reach_con r (omega arith) n h low fits) (no_word AND us stop)) }
  reach_dis (g.or {d = d} {us = us} {vs = vs} {p = p} {q = q} r s) stop n h low fits =
      reached_goes (reach_dis r (lit< tt) n h (omega arith) fits) refl (omega arith) (lowered (λ x. x ≡ Some (q, vs)) level.Con d us q (λ n h low fits. reached_stops (reach_con s (omega arith) n h low fits) (no_word AND vs stop)) (con_high s) n h (omega arith) fits) (omega arith)

  pub reach_con : {d : ℕ} {ts us : List TokenKind} {p : RawForm} → IsCon d ts p us → 1 < binds us → (n h : ℕ) → raw_form_depth p ≤ suc h → d + h ≤ n
      → Reached level.Con RawForm.And AND d n h (read n level.Una d h) ts p us
  reach_con (g.una r) stop n h low fits = record { turns = suc h; enough = omega arith; reached = rw (exact_una r stop n h low fits) }
  reach_con (g.and {d = d} {us = us} {vs = vs} {p = p} {q = q} r s) stop n h low fits =
      reached_goes (reach_con r (lit< tt) n h (omega arith) fits) refl (omega arith) (lowered (λ x. x ≡ Some (q, vs)) level.Una d us q (exact_una s stop) (una_high s) n h (omega arith) fits) (omega arith)

  pub exact_una : {d : ℕ} {ts us : List TokenKind} {p : RawForm} → IsUna d ts p us → 1 < binds us → Exact level.Una d ts p us
  exact_una (g.not {d = d} {ts = ts} {us = us} {p = p} r) stop n h low fits =
      rw (lowered (λ x. x ≡ Some (p, us)) level.Una d ts p (exact_una r stop) (una_high r) n h (omega arith) fits)
  exact_una (g.all {d = d} {ts = ts} {us = us} {p = p} r) stop n h low fits =
      rw (lowered (λ x. x ≡ Some (p, us)) level.Una d ts p (exact_una r stop) (una_high r) n h (omega arith) fits)
  exact_una (g.ex {d = d} {ts = ts} {us = us} {p = p} r) stop n h low fits =
      rw (lowered (λ x. x ≡ Some (p, us)) level.Una d ts p (exact_una r stop) (una_high r) n h (omega arith) fits)
  exact_una g.true stop n h low fits = refl
  exact_una g.false stop n h low fits = refl
  exact_una (g.brackets {d = d} {ts = ts} {us = us} {p = p} r) stop n h low fits =
      rw (lowered (λ x. x ≡ Some (p, Mark CLOSE ∷ us)) level.Form d ts p (exact_form r (lit< tt)) (form_high r) n (suc h) low (omega arith))
  exact_una (g.atom {d = d} {us = us} {n = x} {args = args} r) stop n h low fits =
      rw (by_term r (read n level.Form) (read n level.Una) d h, exact_term r (suc h) low (omega arith), no_mark EQUAL us stop) (stays _ _ _ (nat_le (raw_term_depth (RawTerm.App x args)) h))
  exact_una (g.equal {d = d} {us = us} {t = t} {u = u} r s) stop n h low fits =
      rw (
        by_term r (read n level.Form) (read n level.Una) d h,
        exact_term r (suc h) (omega arith) (lit< tt),
        le-leb (raw_term_depth t) h (omega arith),
        exact_term s h (omega arith) (omega arith),
      )

-- with fuel for the brackets and the height
pub exact_read : {d : ℕ} {ts us : List TokenKind} {p : RawForm} → IsForm d ts p us → 5 < binds us
    → (n h : ℕ) → raw_form_depth p ≤ h → d + h ≤ n → read n level.Form d h ts ≡ Some (p, us)
exact_read {d} {ts} {us} {p} r stop = lowered (λ x. x ≡ Some (p, us)) level.Form d ts p (exact_form r stop) (form_high r)
