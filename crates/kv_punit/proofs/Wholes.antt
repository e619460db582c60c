-- The parts of theorems and units.
use Rattle.std.proofs.Common.{◌≡◌, List, [], ◌∷◌, refl, ap, ◌∙◌, sym, subst}
use Rattle.std.specs.Prelude.{Some, false}
use Rattle.kv_lex.specs.Marks.{SEMICOLON, COLON}
use Rattle.kv_lex.specs.declared.token.TokenKind.{TokenKind}
use Rattle.kv_lex.specs.declared.token.TokenKind.TheVariants.{Word, Ident, Mark}
use Rattle.kv_pexpr.specs.Grammar.{ReadsForm}
use Rattle.kv_pexpr.specs.Parse.{eat_mark, eat_word, eat_name}
use Rattle.kv_pexpr.proofs.Steps.{some_is, given_some, mark_some, word_some, name_some}
use Rattle.kv_raw.specs.RawTrees.{RawForm}
use Rattle.kv_names.specs.Names.{Name}
use Rattle.kv_syn.specs.Projects.{Theorem, Proof}
use Rattle.kv_syn.specs.Projects as P
use Rattle.kv_table.specs.Keywords as word
use Rattle.kv_punit.specs.Grammar as g
use Rattle.kv_punit.specs.Grammar.{IsStatement, IsTheorem, AreTheorems, AreProofs, IsHead, IsUnit}
use Rattle.kv_punit.specs.Parse as spec
use Rattle.kv_punit.proofs.Sound.{sound_head}
use Rattle.kv_punit.proofs.Exact.{exact_head}

-- what stands in a statement
pub record Stated (ts : List TokenKind) (t : Theorem) (us : List TokenKind) : Type 0 where
  pub behind : List TokenKind
  pub begins : spec.heading ts ≡ Some (t.name, behind)
  pub reads : ReadsForm behind t.form us
  pub plain : t.simp ≡ false

pub statement_parts : {ts us : List TokenKind} {t : Theorem} → IsStatement ts t us → Stated ts t us
statement_parts (g.statement {ts = ts} r) = record { behind = ts; begins = refl; reads = r; plain = refl }

heading_some : (ts : List TokenKind) (r : Name × List TokenKind) → spec.heading ts ≡ Some r → ts ≡ Ident r.0 ∷ Mark COLON ∷ r.1
heading_some ts r e =
    let n = given_some (eat_name ts) spec.coloned e in
    let b = given_some (eat_mark COLON n.0.1) (λ ts. Some (n.0.0, ts)) n.2 in
    rw (name_some ts n.0 n.1, mark_some COLON n.0.1 b.0 b.1)
    (subst (λ (x : Name × List TokenKind). Ident n.0.0 ∷ Mark COLON ∷ b.0 ≡ Ident x.0 ∷ Mark COLON ∷ x.1) (some_is b.2) refl)

pub statement_from : (ts us vs : List TokenKind) (n : Name) (f : RawForm) → spec.heading ts ≡ Some (n, vs) → ReadsForm vs f us
    → IsStatement ts (record { name = n; simp = false; form = f }) us
statement_from ts us vs n f e reads = rw (heading_some ts (n, vs) e) (g.statement reads)

-- what stands in a theorem
pub theorem_parts : {ts us : List TokenKind} {t : Theorem} → IsTheorem ts t us → (vs : List TokenKind) × (eat_word word.THEOREM ts ≡ Some vs) × IsStatement vs t (Mark SEMICOLON ∷ us)
theorem_parts (g.theorem {ts = ts} r) = (ts, refl, r)

pub theorem_from : (ts vs us : List TokenKind) (t : Theorem) → eat_word word.THEOREM ts ≡ Some vs → IsStatement vs t (Mark SEMICOLON ∷ us) → IsTheorem ts t us
theorem_from ts vs us t e r = rw (word_some word.THEOREM ts vs e) (g.theorem r)

-- what stands in a unit
pub record Parts (ts : List TokenKind) (u : P.Unit) (us : List TokenKind) : Type 0 where
  pub vs : List TokenKind
  pub ws : List TokenKind
  pub begins : spec.head ts ≡ Some (record { name = u.name; kind = u.kind; theorems = []; proofs = [] }, vs)
  pub states : AreTheorems vs u.theorems ws
  pub proves : AreProofs ws u.proofs us

-- a head has no theorems and proofs
bare : {ts us : List TokenKind} {u : P.Unit} → IsHead ts u us → u ≡ record { name = u.name; kind = u.kind; theorems = []; proofs = [] }
bare (g.head is) = refl

pub unit_parts : {ts us : List TokenKind} {u : P.Unit} → IsUnit ts u us → Parts ts u us
unit_parts (g.unit {us = us} {vs = vs} is theorems proofs) = record {
  vs = us;
  ws = vs;
  begins = exact_head is ∙ ap (λ (x : P.Unit). Some (x, us)) (bare is);
  states = theorems;
  proves = proofs;
}

-- the whole unit of its parts
pub unit_from : (ts vs ws us : List TokenKind) (head : P.Unit) (theorems : List Theorem) (proofs : List Proof)
    → spec.head ts ≡ Some (head, vs) → AreTheorems vs theorems ws → AreProofs ws proofs us
    → IsUnit ts (record { name = head.name; kind = head.kind; theorems = theorems; proofs = proofs }) us
unit_from ts vs ws us head theorems proofs e states proves = g.unit (sound_head ts (head, vs) e) states proves
