-- One text is one project.
use Rattle.std.proofs.Common.{ℕ, ◌≡◌, List, [], ◌∷◌, refl, ap, ◌∙◌, sym, subst}
use Rattle.std.specs.Prelude.{None}
use Rattle.kv_lex.specs.declared.token.TokenKind.{TokenKind}
use Rattle.kv_pexpr.specs.Grammar.{Stops, ReadsForm}
use Rattle.kv_pexpr.specs.Parse.{eat_word}
use Rattle.kv_pexpr.proofs.One as forms
use Rattle.kv_pexpr.proofs.Steps.{some_is}
use Rattle.kv_syn.specs.Projects.{Theorem, Proof}
use Rattle.kv_syn.specs.Projects as P
use Rattle.kv_table.specs.Keywords as word
use Rattle.kv_punit.specs.Grammar as g
use Rattle.kv_punit.specs.Grammar.{IsStatement, IsTheorem, IsLabelled, IsProof, AreTheorems, AreProofs, IsHead, IsUnit, AreUnits, IsProject}
use Rattle.kv_punit.specs.ReadsAs.{OneSpelling}
use Rattle.kv_punit.specs.Ends.{Ends}
use Rattle.kv_punit.proofs.Exact as script
use Rattle.kv_punit.proofs.Exact.{exact_labelled, exact_proof, exact_head}
use Rattle.kv_punit.proofs.Stopping.{semicolon_stops}
use Rattle.kv_punit.proofs.Wholes.{statement_parts}

pub one_statement : {ts us vs : List TokenKind} {t u : Theorem} → IsStatement ts t us → IsStatement ts u vs → Stops us → Stops vs → (t ≡ u) × (us ≡ vs)
one_statement {ts} {us} {vs} {t} {u} r s stop stop' =
    let a = statement_parts r in
    let b = statement_parts s in
    let head = some_is (sym a.begins ∙ b.begins) in
    let name : t.name ≡ u.name = ap (λ x. x.0) head in
    let behind : a.behind ≡ b.behind = ap (λ x. x.1) head in
    let f = forms.one_reading b.behind us vs t.form u.form (subst (λ x. ReadsForm x t.form us) behind a.reads) b.reads stop stop' in
    let simp : t.simp ≡ u.simp = a.plain ∙ sym b.plain in
    let form : t.form ≡ u.form = f.0 in
    (ap (λ (n : List ℕ). record { name = n; simp = t.simp; form = t.form }) name ∙ ap (λ b. record { name = u.name; simp = b; form = t.form }) simp ∙ ap (λ f. record { name = u.name; simp = u.simp; form = f }) form, f.1)

pub one_theorem : {ts us vs : List TokenKind} {t u : Theorem} → IsTheorem ts t us → IsTheorem ts u vs → (t ≡ u) × (us ≡ vs)
one_theorem (g.theorem {us = us} r) (g.theorem {us = vs} s) = let h = one_statement r s (semicolon_stops us) (semicolon_stops vs) in (h.0, cc (h.1))

pub one_labelled : {ts us vs : List TokenKind} {p q : Proof} → IsLabelled ts p us → IsLabelled ts q vs → script.Ends us → script.Ends vs → (p ≡ q) × (us ≡ vs)
one_labelled r s stop stop' = let e = some_is (sym (exact_labelled r stop) ∙ exact_labelled s stop') in (ap (λ x. x.0) e, ap (λ x. x.1) e)

pub one_proof : {ts us vs : List TokenKind} {p q : Proof} → IsProof ts p us → IsProof ts q vs → (p ≡ q) × (us ≡ vs)
one_proof r s = let e = some_is (sym (exact_proof r) ∙ exact_proof s) in (ap (λ x. x.0) e, ap (λ x. x.1) e)

pub one_head : {ts us vs : List TokenKind} {u v : P.Unit} → IsHead ts u us → IsHead ts v vs → (u ≡ v) × (us ≡ vs)
one_head r s = let e = some_is (sym (exact_head r) ∙ exact_head s) in (ap (λ x. x.0) e, ap (λ x. x.1) e)

pub theorem_begins : {ts us : List TokenKind} {t : Theorem} → IsTheorem ts t us → eat_word word.THEOREM ts ≡ None → ⊥
theorem_begins (g.theorem r) e = cc

pub proof_begins : {ts us : List TokenKind} {p : Proof} → IsProof ts p us → eat_word word.PROOF ts ≡ None → ⊥
proof_begins (g.proof r) e = cc

no_theorem : {ts us : List TokenKind} {p : Proof} → IsProof ts p us → eat_word word.THEOREM ts ≡ None
no_theorem (g.proof r) = refl

pub one_theorems : {ts us vs : List TokenKind} {l m : List Theorem} → AreTheorems ts l us → AreTheorems ts m vs → eat_word word.THEOREM us ≡ None → eat_word word.THEOREM vs ≡ None
    → (l ≡ m) × (us ≡ vs)
one_theorems g.none g.none e f = (refl, refl)
one_theorems g.none (g.more s ss) e f = absurd (theorem_begins s e)
one_theorems (g.more r rs) g.none e f = absurd (theorem_begins r f)
one_theorems (g.more {us = us} {vs = vs} {x = t} {rest = l} r rs) (g.more {us = us'} {vs = vs'} {x = t'} {rest = m} s ss) e f =
    let h = one_theorem r s in
    let rest = one_theorems (subst (λ x. AreTheorems x l vs) h.1 rs) ss e f in
    (ap (λ x. x ∷ l) h.0 ∙ ap (λ x. t' ∷ x) rest.0, rest.1)

pub one_proofs : {ts us vs : List TokenKind} {l m : List Proof} → AreProofs ts l us → AreProofs ts m vs → eat_word word.PROOF us ≡ None → eat_word word.PROOF vs ≡ None
    → (l ≡ m) × (us ≡ vs)
one_proofs g.none g.none e f = (refl, refl)
one_proofs g.none (g.more s ss) e f = absurd (proof_begins s e)
one_proofs (g.more r rs) g.none e f = absurd (proof_begins r f)
one_proofs (g.more {us = us} {vs = vs} {x = p} {rest = l} r rs) (g.more {us = us'} {vs = vs'} {x = p'} {rest = m} s ss) e f =
    let h = one_proof r s in
    let rest = one_proofs (subst (λ x. AreProofs x l vs) h.1 rs) ss e f in
    (ap (λ x. x ∷ l) h.0 ∙ ap (λ x. p' ∷ x) rest.0, rest.1)

pub proofs_stop : {ts us : List TokenKind} {l : List Proof} → AreProofs ts l us → eat_word word.THEOREM us ≡ None → eat_word word.THEOREM ts ≡ None
proofs_stop g.none e = e
proofs_stop (g.more r rs) e = no_theorem r

pub one_unit : {ts us vs : List TokenKind} {u v : P.Unit} → IsUnit ts u us → IsUnit ts v vs → Ends us → Ends vs → (u ≡ v) × (us ≡ vs)
one_unit (g.unit {vs = xs} {ws = ws} {head = h} {theorems = ths} {proofs = ps} is ts' ps') (g.unit {head = k} {theorems = ths'} {proofs = qs} is' us' qs') e f =
    let i = one_head is is' in
    let t = one_theorems (subst (λ x. AreTheorems x ths xs) i.1 ts') us' (proofs_stop ps' e.0) (proofs_stop qs' f.0) in
    let p = one_proofs (subst (λ x. AreProofs x ps ws) t.1 ps') qs' e.1 f.1 in (
      ap (λ (x : P.Unit). record { name = x.name; kind = x.kind; theorems = ths; proofs = ps }) i.0
          ∙ ap (λ x. record { name = k.name; kind = k.kind; theorems = x; proofs = ps }) t.0
          ∙ ap (λ x. record { name = k.name; kind = k.kind; theorems = ths'; proofs = x }) p.0,
      p.1,
    )

head_stops : {ts us : List TokenKind} {u : P.Unit} → IsHead ts u us → Ends ts
head_stops (g.head is) = (refl, refl)

head_some : {ts us : List TokenKind} {u : P.Unit} → IsHead ts u us → ts ≡ [] → ⊥
head_some (g.head is) e = cc

pub unit_stops : {ts us : List TokenKind} {u : P.Unit} → IsUnit ts u us → Ends ts
unit_stops (g.unit is ts ps) = head_stops is

pub units_stop : {ts us : List TokenKind} {p : P.Project} → AreUnits ts p us → us ≡ [] → Ends ts
units_stop g.none e = rw e (refl, refl)
units_stop (g.more r rs) e = unit_stops r

pub unit_some : {ts us : List TokenKind} {u : P.Unit} → IsUnit ts u us → ts ≡ [] → ⊥
unit_some (g.unit is ts ps) e = head_some is e

pub one_units : {ts us vs : List TokenKind} {p q : P.Project} → AreUnits ts p us → AreUnits ts q vs → us ≡ [] → vs ≡ [] → p ≡ q
one_units g.none g.none e f = refl
one_units g.none (g.more s ss) e f = absurd (unit_some s e)
one_units (g.more r rs) g.none e f = absurd (unit_some r f)
one_units (g.more {us = us} {vs = vs} {x = u} {rest = l} r rs) (g.more {us = us'} {vs = vs'} {x = u'} {rest = m} s ss) e f =
    let h = one_unit r s (units_stop rs e) (units_stop ss f) in
    let rest = one_units (subst (λ x. AreUnits x l vs) h.1 rs) ss e f in
    ap (λ x. x ∷ l) h.0 ∙ ap (λ x. u' ∷ x) rest

one_spelt : {ts : List TokenKind} {p q : P.Project} → IsProject ts p → IsProject ts q → p ≡ q
one_spelt (g.project are) (g.project are') = one_units are are' refl refl

pub one_spelling : OneSpelling
one_spelling ts p q r s = one_spelt r s
