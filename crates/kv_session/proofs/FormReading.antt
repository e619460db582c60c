-- The tokens of a printed term or formula are read as it.
use Rattle.std.proofs.Common.{ℕ, zero, suc, ◌≡◌, ◌≤◌, ◌<◌, List, [], ◌∷◌, ◌++◌, refl, arith}
use Rattle.std.specs.Prelude.{true, false, codes}
use Rattle.kv_lex.specs.Marks.{mark_rows}
use Rattle.kv_lex.specs.Marks.{CLOSE, COMMA, EQUAL, ARROW, DOUBLE_ARROW}
use Rattle.kv_lex.specs.declared.token.TokenKind.{TokenKind}
use Rattle.kv_lex.specs.declared.token.TokenKind.TheVariants.{Word as WordToken, Mark as MarkToken}
use Rattle.kv_pexpr.specs.Grammar.{IsTerm, AreTerms, IsForm, IsUna, ReadsForm, ReadsTerm}
use Rattle.kv_pexpr.specs.Grammar as f
use Rattle.kv_print.specs.Forms.{operand, printed_form, form_pieces, term_pieces, terms_pieces, more_terms}
use Rattle.kv_print.specs.Pieces.{Piece}
use Rattle.kv_print.specs.Pieces.Piece.{Space, Word, Mark}
use Rattle.kv_session.specs.Spellable as s
use Rattle.kv_session.proofs.Tokens.{before, before_append}
use Rattle.kv_raw.specs.RawCount.{raw_term_depth, raw_terms_depth, raw_form_depth}
use Rattle.kv_raw.specs.RawTrees.{RawTerm, RawTerms, RawForm}
use Rattle.kv_names.specs.Names.{Name}
use Rattle.kv_names.specs.declared.symbols.Var.{Var}
use Rattle.kv_table.specs.Keywords.{keyword_rows}
use Rattle.kv_table.specs.Keywords as word

-- ---- terms

term_high : (t : RawTerm) → 0 < raw_term_depth t
term_high (RawTerm.App n ts) = omega arith

application : (n : Name) (args : RawTerms) (d : ℕ) (us : List TokenKind) → raw_terms_depth args ≤ d
    → ((e : ℕ) → 0 < raw_terms_depth args → raw_terms_depth args ≤ suc e → AreTerms e (before (terms_pieces args) (MarkToken CLOSE ∷ us)) args (MarkToken CLOSE ∷ us))
    → IsTerm d (before (term_pieces (RawTerm.App n args)) us) (RawTerm.App n args) us
unfolding mark_rows
application n RawTerms.none d us low inner = f.name
application n (RawTerms.more t ts) zero us low inner = absurd (omega (arith, term_high t))
application n (RawTerms.more t ts) (suc d) us low inner =
    rw (before_append (terms_pieces (RawTerms.more t ts)) (Mark (codes ")") ∷ []) us) (f.applied (inner d (omega (arith, term_high t)) low))

behind_first : (t : RawTerm) (rest : RawTerms) (d : ℕ) (us : List TokenKind) → ((vs : List TokenKind) → IsTerm d (before (term_pieces t) vs) t vs)
    → (0 < raw_terms_depth rest → AreTerms d (before (terms_pieces rest) us) rest us) → AreTerms d (before (terms_pieces (RawTerms.more t rest)) us) (RawTerms.more t rest) us
unfolding mark_rows
behind_first t RawTerms.none d us first others = rw (before_append (term_pieces t) [] us) (f.last (first us))
behind_first t (RawTerms.more u ts) d us first others =
    rw (before_append (term_pieces t) (more_terms (RawTerms.more u ts)) us)
    (f.more (first (MarkToken COMMA ∷ before (terms_pieces (RawTerms.more u ts)) us)) (others (omega (arith, term_high u))))

mutual
  term_reads : (t : RawTerm) (d : ℕ) (us : List TokenKind) → raw_term_depth t ≤ suc d → IsTerm d (before (term_pieces t) us) t us
  term_reads (RawTerm.App n args) d us low = application n args d us (omega arith) (λ e some few. terms_read args e (MarkToken CLOSE ∷ us) some few)

  terms_read : (args : RawTerms) (d : ℕ) (us : List TokenKind) → 0 < raw_terms_depth args → raw_terms_depth args ≤ suc d → AreTerms d (before (terms_pieces args) us) args us
  terms_read RawTerms.none d us some low = absurd (omega arith)
  terms_read (RawTerms.more t rest) d us some low = behind_first t rest d us (λ vs. term_reads t d vs (omega arith)) (λ others. terms_read rest d us others (omega arith))

-- ---- formulas

-- an operand is read by the innermost rule, and the whole by the outermost
record FormReads (form : RawForm) : Type 0 where
  pub inner : (d : ℕ) (us : List TokenKind) → raw_form_depth form ≤ d → IsUna d (before (operand (printed_form form)) us) form us
  pub outer : (d : ℕ) (us : List TokenKind) → raw_form_depth form ≤ suc d → IsForm d (before (form_pieces form) us) form us

whole : {d : ℕ} {ts us : List TokenKind} {p : RawForm} → IsUna d ts p us → IsForm d ts p us
whole r = f.imp (f.dis (f.con (f.una r)))

bracketed : (form : RawForm) (ps : List Piece) → 0 < raw_form_depth form → ((d : ℕ) (us : List TokenKind) → raw_form_depth form ≤ suc d → IsForm d (before ps us) form us)
    → (d : ℕ) (us : List TokenKind) → raw_form_depth form ≤ d → IsUna d (before (Mark (codes "(") ∷ ps ++ Mark (codes ")") ∷ []) us) form us
unfolding mark_rows
bracketed form ps some outer zero us low = absurd (omega arith)
bracketed form ps some outer (suc d) us low = rw (before_append ps (Mark (codes ")") ∷ []) us) (f.brackets (outer d (MarkToken CLOSE ∷ us) low))

and_outer : (p q : RawForm) → FormReads p → FormReads q → (d : ℕ) (us : List TokenKind) → raw_form_depth (RawForm.And p q) ≤ suc d → IsForm d (before (form_pieces (RawForm.And p q)) us) (RawForm.And p q) us
unfolding keyword_rows
and_outer p q r s d us low =
    rw (before_append (operand (printed_form p)) (Space ∷ Word (codes "and") ∷ Space ∷ operand (printed_form q)) us)
    (f.imp (f.dis (f.con (f.and (f.una (r.inner d (WordToken word.AND ∷ before (operand (printed_form q)) us) (omega arith))) (s.inner d us (omega arith))))))

or_outer : (p q : RawForm) → FormReads p → FormReads q → (d : ℕ) (us : List TokenKind) → raw_form_depth (RawForm.Or p q) ≤ suc d → IsForm d (before (form_pieces (RawForm.Or p q)) us) (RawForm.Or p q) us
unfolding keyword_rows
or_outer p q r s d us low =
    rw (before_append (operand (printed_form p)) (Space ∷ Word (codes "or") ∷ Space ∷ operand (printed_form q)) us)
    (f.imp (f.dis (f.or (f.con (f.una (r.inner d (WordToken word.OR ∷ before (operand (printed_form q)) us) (omega arith)))) (f.una (s.inner d us (omega arith))))))

imp_outer : (p q : RawForm) → FormReads p → FormReads q → (d : ℕ) (us : List TokenKind) → raw_form_depth (RawForm.Imp p q) ≤ suc d → IsForm d (before (form_pieces (RawForm.Imp p q)) us) (RawForm.Imp p q) us
unfolding mark_rows
imp_outer p q r s d us low =
    rw (before_append (operand (printed_form p)) (Space ∷ Mark (codes "->") ∷ Space ∷ operand (printed_form q)) us)
    (f.imp (f.arrow (f.con (f.una (r.inner d (MarkToken ARROW ∷ before (operand (printed_form q)) us) (omega arith)))) (f.dis (f.con (f.una (s.inner d us (omega arith)))))))

iff_outer : (p q : RawForm) → FormReads p → FormReads q → (d : ℕ) (us : List TokenKind) → raw_form_depth (RawForm.Iff p q) ≤ suc d → IsForm d (before (form_pieces (RawForm.Iff p q)) us) (RawForm.Iff p q) us
unfolding mark_rows
iff_outer p q r s d us low =
    rw (before_append (operand (printed_form p)) (Space ∷ Mark (codes "<->") ∷ Space ∷ operand (printed_form q)) us)
    (f.iff (f.dis (f.con (f.una (r.inner d (MarkToken DOUBLE_ARROW ∷ before (operand (printed_form q)) us) (omega arith))))) (f.dis (f.con (f.una (s.inner d us (omega arith))))))

not_una : (p : RawForm) → FormReads p → (d : ℕ) (us : List TokenKind) → raw_form_depth (RawForm.Not p) ≤ suc d → IsUna d (before (form_pieces (RawForm.Not p)) us) (RawForm.Not p) us
unfolding keyword_rows
not_una p r d us low = f.not (r.inner d us (omega arith))

all_una : (x : Var) (p : RawForm) → FormReads p → (d : ℕ) (us : List TokenKind) → raw_form_depth (RawForm.All x p) ≤ suc d → IsUna d (before (form_pieces (RawForm.All x p)) us) (RawForm.All x p) us
unfolding keyword_rows mark_rows
all_una x p r d us low = f.all (r.inner d us (omega arith))

ex_una : (x : Var) (p : RawForm) → FormReads p → (d : ℕ) (us : List TokenKind) → raw_form_depth (RawForm.Ex x p) ≤ suc d → IsUna d (before (form_pieces (RawForm.Ex x p)) us) (RawForm.Ex x p) us
unfolding keyword_rows mark_rows
ex_una x p r d us low = f.ex (r.inner d us (omega arith))

true_una : (d : ℕ) (us : List TokenKind) → IsUna d (before (form_pieces RawForm.True) us) RawForm.True us
unfolding keyword_rows
true_una d us = f.true

false_una : (d : ℕ) (us : List TokenKind) → IsUna d (before (form_pieces RawForm.False) us) RawForm.False us
unfolding keyword_rows
false_una d us = f.false

equal_una : (t u : RawTerm) (d : ℕ) (us : List TokenKind) → raw_form_depth (RawForm.Equal t u) ≤ suc d → IsUna d (before (form_pieces (RawForm.Equal t u)) us) (RawForm.Equal t u) us
unfolding mark_rows
equal_una t u d us low =
    rw (before_append (term_pieces t) (Space ∷ Mark (codes "=") ∷ Space ∷ term_pieces u) us)
    (f.equal (term_reads t d (MarkToken EQUAL ∷ before (term_pieces u) us) (omega arith)) (term_reads u d us (omega arith)))

-- a formula that isn't binary stands alone
alone : {form : RawForm} → (printed_form form).joined ≡ false → ((d : ℕ) (us : List TokenKind) → raw_form_depth form ≤ suc d → IsUna d (before (form_pieces form) us) form us) → FormReads form
alone {form = form} e una = record { inner = λ d us low. rw e (una d us (omega arith)); outer = λ d us low. whole (una d us low) }

joined : {form : RawForm} → 0 < raw_form_depth form → (printed_form form).joined ≡ true → ((d : ℕ) (us : List TokenKind) → raw_form_depth form ≤ suc d → IsForm d (before (form_pieces form) us) form us) → FormReads form
joined {form = form} some e outer = record { inner = λ d us low. rw e (bracketed form (form_pieces form) some outer d us low); outer = outer }

form_reads : {form : RawForm} → s.IsForm form → FormReads form
form_reads s.truth = alone {form = RawForm.True} refl (λ d us low. true_una d us)
form_reads s.falsehood = alone {form = RawForm.False} refl (λ d us low. false_una d us)
form_reads (s.atom {p = n} {args = args} is are) = alone {form = RawForm.Atom n args} refl (λ d us low. f.atom (term_reads (RawTerm.App n args) d us low))
form_reads (s.equal {t = t} {u = u} is other) = alone {form = RawForm.Equal t u} refl (λ d us low. equal_una t u d us low)
form_reads (s.not {f = p} r) = alone {form = RawForm.Not p} refl (λ d us low. not_una p (form_reads r) d us low)
form_reads (s.all {x = x} {f = p} is r) = alone {form = RawForm.All x p} refl (λ d us low. all_una x p (form_reads r) d us low)
form_reads (s.ex {x = x} {f = p} is r) = alone {form = RawForm.Ex x p} refl (λ d us low. ex_una x p (form_reads r) d us low)
form_reads (s.and {f = p} {g = q} r t) = joined {form = RawForm.And p q} (omega arith) refl (and_outer p q (form_reads r) (form_reads t))
form_reads (s.or {f = p} {g = q} r t) = joined {form = RawForm.Or p q} (omega arith) refl (or_outer p q (form_reads r) (form_reads t))
form_reads (s.imp {f = p} {g = q} r t) = joined {form = RawForm.Imp p q} (omega arith) refl (imp_outer p q (form_reads r) (form_reads t))
form_reads (s.iff {f = p} {g = q} r t) = joined {form = RawForm.Iff p q} (omega arith) refl (iff_outer p q (form_reads r) (form_reads t))

pub reads_form : (form : RawForm) (us : List TokenKind) → s.IsForm form → raw_form_depth form ≤ 150 → ReadsForm (before (form_pieces form) us) form us
reads_form form us is low = ((form_reads is).outer 150 us (omega arith), low)

pub reads_term : (t : RawTerm) (us : List TokenKind) → raw_term_depth t ≤ 150 → ReadsTerm (before (term_pieces t) us) t us
reads_term t us low = (term_reads t 150 us (omega arith), low)
