-- What reads a thing of which all the tokens are a spelling.
use Rattle.std.proofs.Common.{◌≡◌, List, [], ◌∷◌, refl, ap, ◌∙◌, sym, subst}
use Rattle.std.specs.Prelude.{Err, Some, None}
use Rattle.kv_lex.specs.declared.token.TokenKind.{TokenKind}
use Rattle.kv_pexpr.specs.Gives.{Gives}
use Rattle.kv_pexpr.specs.Grammar.{Stops}
use Rattle.kv_pexpr.specs.Parse.{Read}
use Rattle.kv_pexpr.specs.declared.errors.ReadError.{ReadError}
use Rattle.kv_pexpr.specs.declared.errors.ReadError.TheVariants as reader
use Rattle.kv_pexpr.proofs.Steps.{some_is}
use Rattle.kv_syn.specs.Projects.{Theorem, Proof}
use Rattle.kv_syn.specs.Projects as P
use Rattle.kv_syn.specs.Scripts.{Script}
use Rattle.kv_punit.specs.Gives.{Finds, IsThat}
use Rattle.kv_punit.specs.Grammar.{IsStatement, IsLabelled, IsScript, IsHead, path_steps}
use Rattle.kv_punit.specs.Parse as spec
use Rattle.kv_punit.proofs.Exact.{Ends, exact_labelled, exact_script, exact_head}
use Rattle.kv_punit.proofs.Sound.{sound_labelled, sound_script, sound_head}
use Rattle.kv_punit.proofs.Stopping.{no_more}

pub no_child : Ends []
no_child = record { no_semicolon = refl; no_brace = refl; stops = no_more }

pub ends : (us : List TokenKind) → spec.end us ≡ Some tt → us ≡ []
ends [] e = refl
ends (k ∷ us) e = absurd (cc)

pub goes_on : (us : List TokenKind) → spec.end us ≡ None → us ≡ [] → ⊥
goes_on [] none e = absurd (cc)
goes_on (k ∷ us) none e = absurd (cc)

module _ {A : Type 0} (Is : List TokenKind → A → List TokenKind → Type 0) (read : List TokenKind → Read A)
    (exact : (ts : List TokenKind) (x : A) → Is ts x [] → read ts ≡ Some (x, []))
    (sound : (ts : List TokenKind) (r : A × List TokenKind) → read ts ≡ Some r → Is ts r.0 r.1) where
  none_begins : {W X : Type 0} (seen : W → A × List TokenKind) (view : X → A) (ts : List TokenKind) (e : ReadError) → Gives seen (Err e) (read ts) → Finds view (λ x. Is ts x []) (Err e)
  none_begins seen view ts reader.Syntax none = λ x is. absurd (let f = exact ts x is in cc (f, none))
  none_begins seen view ts reader.NoMemory none = tt

  none_ends : {W X : Type 0} (seen : W → Unit {0}) (view : X → A) (ts us : List TokenKind) (y : A) (e : ReadError) → read ts ≡ Some (y, us) → Gives seen (Err e) (spec.end us)
      → Finds view (λ x. Is ts x []) (Err e)
  none_ends seen view ts us y reader.Syntax begins none = λ x is. goes_on us none (ap (λ z. z.1) (some_is (sym begins ∙ exact ts x is)))
  none_ends seen view ts us y reader.NoMemory begins none = tt

  one_alone : (ts us : List TokenKind) (x : A) → read ts ≡ Some (x, us) → spec.end us ≡ Some tt → Is ts x []
  one_alone ts us x begins end = subst (Is ts x) (ends us end) (sound ts (x, us) begins)

-- ---- heads of units

its_head : (ts : List TokenKind) (u : P.Unit) → IsHead ts u [] → spec.head ts ≡ Some (u, [])
its_head ts u is = exact_head is

pub no_head : {W X : Type 0} (seen : W → P.Unit × List TokenKind) (view : X → P.Unit) (ts : List TokenKind) (e : ReadError) → Gives seen (Err e) (spec.head ts) → Finds view (λ u. IsHead ts u []) (Err e)
no_head seen view ts e gives = none_begins IsHead spec.head its_head sound_head seen view ts e gives

pub longer_head : {W X : Type 0} (seen : W → Unit {0}) (view : X → P.Unit) (ts us : List TokenKind) (y : P.Unit) (e : ReadError) → spec.head ts ≡ Some (y, us) → Gives seen (Err e) (spec.end us)
    → Finds view (λ u. IsHead ts u []) (Err e)
longer_head seen view ts us y e begins gives = none_ends IsHead spec.head its_head sound_head seen view ts us y e begins gives

pub head_alone : (ts us : List TokenKind) (u : P.Unit) → spec.head ts ≡ Some (u, us) → spec.end us ≡ Some tt → IsHead ts u []
head_alone ts us x begins end = one_alone IsHead spec.head its_head sound_head ts us x begins end

-- ---- scripts

its_script : (ts : List TokenKind) (s : Script) → IsScript path_steps ts s [] → spec.script path_steps ts ≡ Some (s, [])
its_script ts s is = exact_script is no_child

pub no_script : {W X : Type 0} (seen : W → Script × List TokenKind) (view : X → Script) (ts : List TokenKind) (e : ReadError) → Gives seen (Err e) (spec.script path_steps ts)
    → Finds view (λ s. IsScript path_steps ts s []) (Err e)
no_script seen view ts e gives = none_begins (IsScript path_steps) (spec.script path_steps) its_script (sound_script path_steps) seen view ts e gives

pub longer_script : {W X : Type 0} (seen : W → Unit {0}) (view : X → Script) (ts us : List TokenKind) (y : Script) (e : ReadError) → spec.script path_steps ts ≡ Some (y, us)
    → Gives seen (Err e) (spec.end us) → Finds view (λ s. IsScript path_steps ts s []) (Err e)
longer_script seen view ts us y e begins gives = none_ends (IsScript path_steps) (spec.script path_steps) its_script (sound_script path_steps) seen view ts us y e begins gives

pub script_alone : (ts us : List TokenKind) (s : Script) → spec.script path_steps ts ≡ Some (s, us) → spec.end us ≡ Some tt → IsScript path_steps ts s []
script_alone ts us x begins end = one_alone (IsScript path_steps) (spec.script path_steps) its_script (sound_script path_steps) ts us x begins end

-- ---- labels and scripts

its_labelled : (ts : List TokenKind) (p : Proof) → IsLabelled ts p [] → spec.labelled ts ≡ Some (p, [])
its_labelled ts p is = exact_labelled is no_child

pub no_labelled : {W X : Type 0} (seen : W → Proof × List TokenKind) (view : X → Proof) (ts : List TokenKind) (e : ReadError) → Gives seen (Err e) (spec.labelled ts) → Finds view (λ p. IsLabelled ts p []) (Err e)
no_labelled seen view ts e gives = none_begins IsLabelled spec.labelled its_labelled sound_labelled seen view ts e gives

pub longer_labelled : {W X : Type 0} (seen : W → Unit {0}) (view : X → Proof) (ts us : List TokenKind) (y : Proof) (e : ReadError) → spec.labelled ts ≡ Some (y, us) → Gives seen (Err e) (spec.end us)
    → Finds view (λ p. IsLabelled ts p []) (Err e)
longer_labelled seen view ts us y e begins gives = none_ends IsLabelled spec.labelled its_labelled sound_labelled seen view ts us y e begins gives

pub labelled_alone : (ts us : List TokenKind) (p : Proof) → spec.labelled ts ≡ Some (p, us) → spec.end us ≡ Some tt → IsLabelled ts p []
labelled_alone ts us x begins end = one_alone IsLabelled spec.labelled its_labelled sound_labelled ts us x begins end

-- ---- statements

module _ {W X : Type 0} (seen : W → Theorem × List TokenKind) (view : X → Theorem) (ts : List TokenKind) where
  pub no_statement : (e : ReadError) → ((t : Theorem) (us : List TokenKind) → IsStatement ts t us → Stops us → IsThat seen (Err e) (t, us)) → Finds view (λ t. IsStatement ts t []) (Err e)
  no_statement reader.Syntax only = λ t is. only t [] is no_more
  no_statement reader.NoMemory only = tt

  pub longer_statement : {V : Type 0} (there : V → Unit {0}) (found : Theorem) (rest : List TokenKind) (e : ReadError)
      → ((t : Theorem) (us : List TokenKind) → IsStatement ts t us → Stops us → ◌≡◌ {A = Theorem × List TokenKind} (found, rest) (t, us)) → Gives there (Err e) (spec.end rest) → Finds view (λ t. IsStatement ts t []) (Err e)
  longer_statement there found rest reader.Syntax only none = λ t is. goes_on rest none (ap (λ z. z.1) (only t [] is no_more))
  longer_statement there found rest reader.NoMemory only none = tt

pub statement_alone : (ts us : List TokenKind) (t : Theorem) → IsStatement ts t us → spec.end us ≡ Some tt → IsStatement ts t []
statement_alone ts us t is end = subst (IsStatement ts t) (ends us end) is
