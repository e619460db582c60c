-- What the parts of a theorem say of it.
use Rattle.std.proofs.Common.{◌≡◌, List, ◌∷◌, refl, ap, ◌∙◌, sym, subst}
use Rattle.std.specs.Prelude.{Bool, false, Err, Some}
use Rattle.kv_lex.specs.Marks.{SEMICOLON}
use Rattle.kv_lex.specs.declared.token.TokenKind.{TokenKind}
use Rattle.kv_lex.specs.declared.token.TokenKind.TheVariants.{Mark}
use Rattle.kv_pexpr.specs.Gives.{Gives}
use Rattle.kv_pexpr.specs.Grammar.{ReadsForm, Stops}
use Rattle.kv_pexpr.specs.Parse.{eat_mark, eat_word}
use Rattle.kv_pexpr.specs.declared.errors.ReadError.{ReadError}
use Rattle.kv_pexpr.specs.declared.errors.ReadError.TheVariants as reader
use Rattle.kv_pexpr.proofs.Steps.{some_is, mark_some}
use Rattle.kv_syn.specs.Projects.{Theorem}
use Rattle.kv_raw.specs.RawTrees.{RawForm}
use Rattle.kv_names.specs.Names.{Name}
use Rattle.kv_table.specs.Keywords as word
use Rattle.kv_punit.specs.Gives.{IsThat}
use Rattle.kv_punit.specs.Grammar.{IsStatement, IsTheorem}
use Rattle.kv_punit.specs.Parse as spec
use Rattle.kv_punit.proofs.One.{theorem_begins}
use Rattle.kv_punit.proofs.Stopping.{semicolon_stops}
use Rattle.kv_punit.proofs.Wholes.{statement_parts, theorem_parts, theorem_from}

-- the statement behind the word
stated : (ts vs us : List TokenKind) (t : Theorem) → eat_word word.THEOREM ts ≡ Some vs → IsTheorem ts t us → IsStatement vs t (Mark SEMICOLON ∷ us)
stated ts vs us t begins is =
    let p = theorem_parts is in
    subst (λ x. IsStatement x t (Mark SEMICOLON ∷ us)) (some_is (sym p.1 ∙ begins)) p.2

module _ {X : Type 0} (view : X → Theorem × List TokenKind) (ts : List TokenKind) where
  pub no_word : {W : Type 0} (seen : W → List TokenKind) (e : ReadError) → Gives seen (Err e) (eat_word word.THEOREM ts) → (t : Theorem) (us : List TokenKind) → IsTheorem ts t us → IsThat view (Err e) (t, us)
  no_word seen reader.Syntax none t us is = theorem_begins is none
  no_word seen reader.NoMemory none t us is = tt

  module _ (vs : List TokenKind) (begins : eat_word word.THEOREM ts ≡ Some vs) where
    pub no_statement : {W : Type 0} (seen : W → Theorem × List TokenKind) (e : ReadError) → ((t : Theorem) (us : List TokenKind) → IsStatement vs t us → Stops us → IsThat seen (Err e) (t, us))
        → (t : Theorem) (us : List TokenKind) → IsTheorem ts t us → IsThat view (Err e) (t, us)
    no_statement seen reader.Syntax only t us is = only t (Mark SEMICOLON ∷ us) (stated ts vs us t begins is) (semicolon_stops us)
    no_statement seen reader.NoMemory only t us is = tt

    module _ (found : Theorem) (rest : List TokenKind) (only : (t : Theorem) (us : List TokenKind) → IsStatement vs t us → Stops us → ◌≡◌ {A = Theorem × List TokenKind} (found, rest) (t, us)) where
      it_is : (t : Theorem) (us : List TokenKind) → IsTheorem ts t us → ◌≡◌ {A = Theorem × List TokenKind} (found, rest) (t, Mark SEMICOLON ∷ us)
      it_is t us is = only t (Mark SEMICOLON ∷ us) (stated ts vs us t begins is) (semicolon_stops us)

      pub no_semicolon : {W : Type 0} (seen : W → List TokenKind) (e : ReadError) → Gives seen (Err e) (eat_mark SEMICOLON rest) → (t : Theorem) (us : List TokenKind) → IsTheorem ts t us → IsThat view (Err e) (t, us)
      no_semicolon seen reader.Syntax none t us is =
          let e : rest ≡ Mark SEMICOLON ∷ us = ap (λ x. x.1) (it_is t us is) in
          absurd (let f : eat_mark SEMICOLON rest ≡ Some us = rw e refl in cc (f, none))
      no_semicolon seen reader.NoMemory none t us is = tt

      pub only_theorem : (ws : List TokenKind) → eat_mark SEMICOLON rest ≡ Some ws → (t : Theorem) (us : List TokenKind) → IsTheorem ts t us → ◌≡◌ {A = Theorem × List TokenKind} (found, ws) (t, us)
      only_theorem ws ends t us is =
          let e = it_is t us is in
          let same : found ≡ t = ap (λ x. x.0) e in
          let behind : ws ≡ us = cc (mark_some SEMICOLON rest ws ends, ap (λ x. x.1) e) in
          ap (λ x. (x, ws)) same ∙ ap (λ x. (t, x)) behind

pub theorem_found : (ts vs rest ws : List TokenKind) (t : Theorem) → eat_word word.THEOREM ts ≡ Some vs → IsStatement vs t rest → eat_mark SEMICOLON rest ≡ Some ws → IsTheorem ts t ws
theorem_found ts vs rest ws t begins is ends = theorem_from ts vs ws t begins (subst (IsStatement vs t) (mark_some SEMICOLON rest ws ends) is)

-- ---- statements

-- a theorem of its parts, and what stands behind it
abbrev with_form : Name → Bool → RawForm × List TokenKind → Theorem × List TokenKind
with_form n simp r = (record { name = n; simp = simp; form = r.0 }, r.1)

module _ (ts vs : List TokenKind) (n : Name) (begins : spec.heading ts ≡ Some (n, vs)) where
  its_form : (t : Theorem) (us : List TokenKind) → IsStatement ts t us → ReadsForm vs t.form us
  its_form t us is =
      let p = statement_parts is in
      let behind : p.behind ≡ vs = ap (λ x. x.1) (some_is (sym p.begins ∙ begins)) in
      subst (λ x. ReadsForm x t.form us) behind p.reads

  pub no_form : {W X : Type 0} (seen : W → RawForm × List TokenKind) (view : X → Theorem × List TokenKind) (e : ReadError)
      → ((f : RawForm) (us : List TokenKind) → ReadsForm vs f us → Stops us → IsThat seen (Err e) (f, us))
      → (t : Theorem) (us : List TokenKind) → IsStatement ts t us → Stops us → IsThat view (Err e) (t, us)
  no_form seen view reader.Syntax only t us is stop = only t.form us (its_form t us is) stop
  no_form seen view reader.NoMemory only t us is stop = tt

  pub only_statement : (f : RawForm) (ws : List TokenKind)
      → ((g : RawForm) (us : List TokenKind) → ReadsForm vs g us → Stops us → ◌≡◌ {A = RawForm × List TokenKind} (f, ws) (g, us))
      → (t : Theorem) (us : List TokenKind) → IsStatement ts t us → Stops us → with_form n false (f, ws) ≡ (t, us)
  only_statement f ws only t us is stop =
      let p = statement_parts is in
      let name : n ≡ t.name = ap (λ x. x.0) (some_is (sym begins ∙ p.begins)) in
      let simp : false ≡ t.simp = sym p.plain in
      ap (λ x. with_form x false (f, ws)) name ∙ ap (λ b. with_form t.name b (f, ws)) simp ∙ ap (with_form t.name t.simp) (only t.form us (its_form t us is) stop)
