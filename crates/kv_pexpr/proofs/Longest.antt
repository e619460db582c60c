-- No reading of a formula is longer than the one that the function finds.
use Rattle.std.proofs.Common.{ℕ, zero, suc, ◌+◌, ◌≡◌, ◌≤◌, List, ◌∷◌, length, refl, ap, ◌∙◌, arith, lit<}
use Rattle.std.specs.Prelude.{Some, nat_le}
use Rattle.std.proofs.lemmas.Bool.{le-leb}
use Rattle.kv_lex.specs.declared.token.TokenKind.{TokenKind}
use Rattle.kv_lex.specs.declared.token.TokenKind.TheVariants.{Mark}
use Rattle.kv_lex.specs.Marks.{CLOSE, EQUAL, ARROW, DOUBLE_ARROW}
use Rattle.kv_table.specs.Keywords.{AND, OR}
use Rattle.kv_raw.specs.RawTrees.{RawTerm, RawForm}
use Rattle.kv_raw.specs.RawCount.{raw_term_depth, raw_form_depth}
use Rattle.kv_pexpr.specs.declared.levels.Level.{Level}
use Rattle.kv_pexpr.specs.declared.levels.Level.TheVariants as level
use Rattle.kv_pexpr.specs.Grammar as g
use Rattle.kv_pexpr.specs.Grammar.{IsForm, IsImp, IsDis, IsCon, IsUna}
use Rattle.kv_pexpr.specs.Parse.{behind, eat_mark, eat_word, atom_of, equated, term, chain, right, read, una_rule, con_rule, dis_rule, imp_rule, form_rule, Read}
use Rattle.kv_pexpr.proofs.Reaches.{Reaches, Takes, or_reaches}
use Rattle.kv_pexpr.proofs.Steps.{behind_some, mark_some, word_some}
use Rattle.kv_pexpr.proofs.TermLaws.{sound_term, term_takes, exact_term, longest_term}
use Rattle.kv_pexpr.proofs.Sound.{sound_read, takes}
use Rattle.kv_pexpr.proofs.Exact.{form_high, imp_high, con_high, una_high, lowered, by_term, reached_stops, reached_goes, reach_dis, reach_con, exact_form, exact_imp}

read_takes : (n : ℕ) (l : Level) (d h : ℕ) → Takes (read n l d h)
read_takes n l d h ts s e = let is = sound_read n l d h ts s e in omega (arith, takes l d ts s.1 s.0 is.0)

-- a chain goes on from where it is
chain_reaches : (op : RawForm → RawForm → RawForm) (w : ℕ) (item : List TokenKind → Read RawForm) → Takes item
    → (h k : ℕ) (p : RawForm) (us vs : List TokenKind) → length us ≤ length vs → Reaches vs (chain op (eat_word w) item h k p us)
unfolding chain
chain_reaches op w item takes h zero p us vs far = ((p, us), refl, far)
chain_reaches op w item takes h (suc k) p us vs far =
    or_reaches vs (Some (p, us)) (λ r. chain op (eat_word w) item h k (op p r.0) r.1) (behind (nat_le (raw_form_depth p) h) (eat_word w us) item) ((p, us), refl, far) (λ s e.
    let o = behind_some (raw_form_depth p) h (eat_word w us) item e in
    chain_reaches op w item takes h k (op p s.0) s.1 vs (omega (arith, takes o.0 s o.3, ap length (word_some w us o.0 o.2))))

-- and so does an operator to the right
right_reaches : (op : RawForm → RawForm → RawForm) (m : ℕ) (item : List TokenKind → Read RawForm) → Takes item
    → (h : ℕ) (first : RawForm × List TokenKind) (us : List TokenKind) → length first.1 ≤ length us → Reaches us (right op m h item first)
right_reaches op m item takes h first us far =
    or_reaches us (Some (first.0, first.1)) (λ s. Some (op first.0 s.0, s.1)) (behind (nat_le (raw_form_depth first.0) h) (eat_mark m first.1) item) ((first.0, first.1), refl, far) (λ s e.
    let o = behind_some (raw_form_depth first.0) h (eat_mark m first.1) item e in
    ((op first.0 s.0, s.1), refl, omega (arith, takes o.0 s o.3, ap length (mark_some m first.1 o.0 o.2))))

-- and an equation
equated_reaches : (d h : ℕ) (first : RawTerm × List TokenKind) (us : List TokenKind) → length first.1 ≤ length us → Reaches us (equated d h first)
equated_reaches d h first us far =
    or_reaches us (Some (atom_of first.0, first.1)) (λ s. Some (RawForm.Equal first.0 s.0, s.1)) (behind (nat_le (raw_term_depth first.0) h) (eat_mark EQUAL first.1) (term h d)) ((atom_of first.0, first.1), refl, far) (λ s e.
    let o = behind_some (raw_term_depth first.0) h (eat_mark EQUAL first.1) (term h d) e in
    let is = sound_term h d o.0 s o.3 in
    ((RawForm.Equal first.0 s.0, s.1), refl, omega (arith, term_takes is.0, ap length (mark_some EQUAL first.1 o.0 o.2))))

pub longest_una : {d : ℕ} {ts us : List TokenKind} {p : RawForm} → IsUna d ts p us → (n h : ℕ) → raw_form_depth p ≤ suc h → d + h ≤ n → Reaches us (una_rule (read n) d (suc h) ts)
longest_una (g.not {d = d} {ts = ts} {us = us} {p = p} r) n h low fits =
    let a = lowered (Reaches us) level.Una d ts p (longest_una r) (una_high r) n h (omega arith) fits in
    rw a.1 ((RawForm.Not a.0.0, a.0.1), refl, a.2)
longest_una (g.all {d = d} {x = x} {ts = ts} {us = us} {p = p} r) n h low fits =
    let a = lowered (Reaches us) level.Una d ts p (longest_una r) (una_high r) n h (omega arith) fits in
    rw a.1 ((RawForm.All x a.0.0, a.0.1), refl, a.2)
longest_una (g.ex {d = d} {x = x} {ts = ts} {us = us} {p = p} r) n h low fits =
    let a = lowered (Reaches us) level.Una d ts p (longest_una r) (una_high r) n h (omega arith) fits in
    rw a.1 ((RawForm.Ex x a.0.0, a.0.1), refl, a.2)
longest_una (g.true {us = us}) n h low fits = ((RawForm.True, us), refl, omega arith)
longest_una (g.false {us = us}) n h low fits = ((RawForm.False, us), refl, omega arith)
longest_una (g.brackets {d = d} {ts = ts} {us = us} {p = p} r) n h low fits =
    rw (lowered (λ x. x ≡ Some (p, Mark CLOSE ∷ us)) level.Form d ts p (exact_form r (lit< tt)) (form_high r) n (suc h) low (omega arith)) ((p, us), refl, omega arith)
longest_una (g.atom {d = d} {us = us} r) n h low fits =
    let a = longest_term r (suc h) low in
    rw (by_term r (read n level.Form) (read n level.Una) d h, a.1) (equated_reaches d h a.0 us a.2)
longest_una (g.equal {d = d} {us = us} {vs = vs} {t = t} {u = u} r s) n h low fits =
    let a = longest_term s h (omega arith) in
    rw (by_term r (read n level.Form) (read n level.Una) d h, exact_term r (suc h) (omega arith) (lit< tt), le-leb (raw_term_depth t) h (omega arith), a.1)
    ((RawForm.Equal t a.0.0, a.0.1), refl, a.2)

pub longest_con : {d : ℕ} {ts us : List TokenKind} {p : RawForm} → IsCon d ts p us → (n h : ℕ) → raw_form_depth p ≤ suc h → d + h ≤ n → Reaches us (con_rule (read n) d (suc h) ts)
longest_con (g.una {d = d} {us = us} r) n h low fits =
    let a = longest_una r n h low fits in
    rw a.1 (chain_reaches RawForm.And AND (read n level.Una d h) (read_takes n level.Una d h) h (suc h) a.0.0 a.0.1 us a.2)
longest_con (g.and {d = d} {us = us} {vs = vs} {p = p} {q = q} r s) n h low fits =
    let b = lowered (Reaches vs) level.Una d us q (longest_una s) (una_high s) n h (omega arith) fits in
    let goes = reached_goes (reach_con r (lit< tt) n h (omega arith) fits) refl (omega arith) b.1 (omega arith) in
    let c = chain_reaches RawForm.And AND (read n level.Una d h) (read_takes n level.Una d h) h goes.turns (RawForm.And p b.0.0) b.0.1 vs b.2 in
    (c.0, goes.reached ∙ c.1, c.2)

pub longest_dis : {d : ℕ} {ts us : List TokenKind} {p : RawForm} → IsDis d ts p us → (n h : ℕ) → raw_form_depth p ≤ suc h → d + h ≤ n → Reaches us (dis_rule (read n) d (suc h) ts)
longest_dis (g.con {d = d} {us = us} r) n h low fits =
    let a = longest_con r n h low fits in
    rw a.1 (chain_reaches RawForm.Or OR (read n level.Con d h) (read_takes n level.Con d h) h (suc h) a.0.0 a.0.1 us a.2)
longest_dis (g.or {d = d} {us = us} {vs = vs} {p = p} {q = q} r s) n h low fits =
    let b = lowered (Reaches vs) level.Con d us q (longest_con s) (con_high s) n h (omega arith) fits in
    let goes = reached_goes (reach_dis r (lit< tt) n h (omega arith) fits) refl (omega arith) b.1 (omega arith) in
    let c = chain_reaches RawForm.Or OR (read n level.Con d h) (read_takes n level.Con d h) h goes.turns (RawForm.Or p b.0.0) b.0.1 vs b.2 in
    (c.0, goes.reached ∙ c.1, c.2)

pub longest_imp : {d : ℕ} {ts us : List TokenKind} {p : RawForm} → IsImp d ts p us → (n h : ℕ) → raw_form_depth p ≤ suc h → d + h ≤ n → Reaches us (imp_rule (read n) d (suc h) ts)
longest_imp (g.dis {d = d} {us = us} r) n h low fits =
    let a = longest_dis r n h low fits in
    rw a.1 (right_reaches RawForm.Imp ARROW (read n level.Imp d h) (read_takes n level.Imp d h) h a.0 us a.2)
longest_imp (g.arrow {d = d} {us = us} {vs = vs} {p = p} {q = q} r s) n h low fits =
    let a = lowered (Reaches vs) level.Imp d us q (longest_imp s) (imp_high s) n h (omega arith) fits in
    rw (reached_stops (reach_dis r (lit< tt) n h (omega arith) fits) refl, le-leb (raw_form_depth p) h (omega arith), a.1) ((RawForm.Imp p a.0.0, a.0.1), refl, a.2)

pub longest_form : {d : ℕ} {ts us : List TokenKind} {p : RawForm} → IsForm d ts p us → (n h : ℕ) → raw_form_depth p ≤ suc h → d + h ≤ n → Reaches us (form_rule (read n) d (suc h) ts)
longest_form (g.imp {d = d} {us = us} r) n h low fits =
    let a = longest_imp r n h low fits in
    rw a.1 (right_reaches RawForm.Iff DOUBLE_ARROW (read n level.Imp d h) (read_takes n level.Imp d h) h a.0 us a.2)
longest_form (g.iff {d = d} {us = us} {vs = vs} {p = p} {q = q} r s) n h low fits =
    let a = lowered (Reaches vs) level.Imp d us q (longest_imp s) (imp_high s) n h (omega arith) fits in
    rw (exact_imp r (lit< tt) n h (omega arith) fits, le-leb (raw_form_depth p) h (omega arith), a.1) ((RawForm.Iff p a.0.0, a.0.1), refl, a.2)
