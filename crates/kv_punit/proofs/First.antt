-- What is told of a text, as its first fault.
use Rattle.std.proofs.Common.{ℕ, ◌≡◌, List, [], ◌∷◌, refl, sym, ◌∙◌, ap, subst, inl, inr}
use Rattle.std.specs.Prelude.{Option, Some, None, Result, Ok, Err}
use Rattle.kv_lex.specs.Texts.{Lexed}
use Rattle.kv_lex.specs.Tokens.{lexed}
use Rattle.kv_lex.specs.declared.token.Token.{Token}
use Rattle.kv_lex.specs.declared.token.TokenKind.{TokenKind}
use Rattle.kv_pexpr.specs.Gives.{kinds}
use Rattle.kv_syn.specs.ProjectBridge.{plain_project, plain_unit}
use Rattle.kv_syn.specs.Projects as P
use Rattle.kv_syn.specs.declared.projects.Project.{Project}
use Rattle.kv_syn.specs.declared.units.Unit as units
use Rattle.kv_punit.specs.FirstFault.{Fault, FirstFault, syntax, limit, IsNamed, project_faults, unit_faults, text_faults, TextFault, Answers}
use Rattle.kv_punit.specs.Grammar.{IsProject}
use Rattle.kv_punit.specs.Limits.{IsWellformed, HasFewSteps, HasFewUnits, HasFewTheorems}
use Rattle.kv_punit.specs.ReadsAs.{IsOtherVersion}
use Rattle.kv_punit.specs.Readings.{IsLoneHead, NoLimit, Spells}
use Rattle.kv_punit.specs.declared.errors.TextError.{TextError}
use Rattle.kv_punit.specs.declared.errors.TextError.TheVariants as error
use Rattle.kv_punit.specs.declared.errors.Which.{Which}
use Rattle.kv_punit.specs.declared.errors.Which.TheVariants.{Steps, Units, Theorems}
use Rattle.kv_punit.proofs.One.{one_spelling}
use Rattle.kv_punit.proofs.Texts.{project_units, not_other}
use Rattle.kv_punit.proofs.Told.{Tells, TellsProject}

-- a text has one first fault, or none
pub one_first : (faults : List Fault) (f g : Option TextError) → FirstFault faults f → FirstFault faults g → f ≡ g
one_first [] f g a b = a ∙ sym b
one_first (fault ∷ others) f g (inl a) (inl b) = a.1 ∙ sym b.1
one_first (fault ∷ others) f g (inl a) (inr b) = absurd (b.0 a.0)
one_first (fault ∷ others) f g (inr a) (inl b) = absurd (a.0 b.0)
one_first (fault ∷ others) f g (inr a) (inr b) = one_first others f g a.1 b.1

-- by what lexing gives
of_text : (faults : List TokenKind → List Fault) (text : List ℕ) (read : Lexed) (first : Option TextError) → lexed text ≡ read → FirstFault (text_faults faults read) first → TextFault faults text first
of_text faults text read first is here = subst (λ r. FirstFault (text_faults faults r) first) (sym is) here

-- the one thing that is spelt passes a limit or keeps it
kept : {X : Type 0} (Is Keeps : X → Type 0) (x : X) → ((y : X) → Is y → y ≡ x) → Keeps x → ((y : X) × Is y × (Keeps y → ⊥)) → ⊥
kept Is Keeps x one keeps passes = passes.2 (subst Keeps (sym (one passes.0 passes.1)) keeps)

-- ---- projects

one_named : (ts : List TokenKind) (p : P.Project) → IsProject ts p → (q : P.Project) → IsNamed ts q → q ≡ p
one_named ts p is q named = one_spelling ts q p named.0 is

version_one : (ts : List TokenKind) (p : P.Project) → IsProject ts p → IsOtherVersion ts → ⊥
version_one ts p is other = let u = project_units is in not_other ts u.0 u.1 other

pub project_answers : (text : List ℕ) (r : Result Project TextError) → TellsProject text r → Answers project_faults text r
project_answers text (Ok project) told =
    let ts = kinds told.tokens in
    let p = plain_project project in
    let named : IsNamed ts p = (told.spelt, told.wellformed) in
    let one = one_named ts p told.spelt in
    of_text project_faults text (Ok told.tokens) None told.lexes
    (inr (
      version_one ts p told.spelt,
      inr (
        (λ none. none p named),
        inr (
          kept (IsNamed ts) HasFewSteps p one told.few_steps,
          inr (kept (IsNamed ts) HasFewUnits p one told.few_units, inr (kept (IsNamed ts) HasFewTheorems p one told.few_theorems, refl)),
        ),
      ),
    ))
project_answers text (Err (error.Token place)) told = of_text project_faults text (Err place) (Some (error.Token place)) told (inl (tt, refl))
project_answers text (Err error.Version) (tokens, is, other) = of_text project_faults text (Ok tokens) (Some error.Version) is (inl (other, refl))
project_answers text (Err error.Syntax) (tokens, is, same, none) =
    of_text project_faults text (Ok tokens) (Some error.Syntax) is (inr (same, inl ((λ p named. none p named.0 named.1), refl)))
project_answers text (Err (error.Limit Steps)) (tokens, is, same, (p, spelt, well, many)) =
    let named : IsNamed (kinds tokens) p = (spelt, well) in
    of_text project_faults text (Ok tokens) (Some (error.Limit Steps)) is (inr (same, inr ((λ none. none p named), inl ((p, named, many), refl))))
project_answers text (Err (error.Limit Units)) (tokens, is, same, (p, spelt, well, steps, many)) =
    let ts = kinds tokens in
    let named : IsNamed ts p = (spelt, well) in
    of_text project_faults text (Ok tokens) (Some (error.Limit Units)) is
    (inr (same, inr ((λ none. none p named), inr (kept (IsNamed ts) HasFewSteps p (one_named ts p spelt) steps, inl ((p, named, many), refl)))))
project_answers text (Err (error.Limit Theorems)) (tokens, is, same, (p, spelt, well, steps, units, many)) =
    let ts = kinds tokens in
    let named : IsNamed ts p = (spelt, well) in
    let one = one_named ts p spelt in
    of_text project_faults text (Ok tokens) (Some (error.Limit Theorems)) is
    (inr (same, inr ((λ none. none p named), inr (kept (IsNamed ts) HasFewSteps p one steps, inr (kept (IsNamed ts) HasFewUnits p one units, inl ((p, named, many), refl))))))
project_answers text (Err error.NoMemory) told = tt

-- ---- one unit

pub unit_answers : (text : List ℕ) (r : Result units.Unit TextError) → Tells IsLoneHead NoLimit plain_unit text r → Answers unit_faults text r
unit_answers text (Ok unit) told = of_text unit_faults text (Ok told.tokens) None told.lexes (inr ((λ none. none (plain_unit unit) told.spelt), refl))
unit_answers text (Err (error.Token place)) told = of_text unit_faults text (Err place) (Some (error.Token place)) told (inl (tt, refl))
unit_answers text (Err error.Syntax) (tokens, is, none) = of_text unit_faults text (Ok tokens) (Some error.Syntax) is (inl (none, refl))
unit_answers text (Err (error.Limit Steps)) (tokens, is, (unit, spelt, many)) = absurd (many tt)
unit_answers text (Err (error.Limit Units)) told = absurd told
unit_answers text (Err (error.Limit Theorems)) told = absurd told
unit_answers text (Err error.Version) told = absurd told
unit_answers text (Err error.NoMemory) told = tt

-- ---- a script, a command

module _ {X Y : Type 0} (Is : List TokenKind → Y → Type 0) (Keeps : Y → Type 0) (view : X → Y) (text : List ℕ) (one : (ts : List TokenKind) (x y : Y) → Is ts x → Is ts y → x ≡ y) where
  abbrev faults : List TokenKind → List Fault
  faults ts = syntax (Is ts) ∷ limit Steps (Is ts) Keeps ∷ []

  pub answers : (r : Result X TextError) → Tells Is Keeps view text r → Answers (λ ts. syntax (Is ts) ∷ limit Steps (Is ts) Keeps ∷ []) text r
  answers (Ok x) told =
      of_text faults text (Ok told.tokens) None told.lexes
      (inr ((λ none. none (view x) told.spelt), inr (kept (Is (kinds told.tokens)) Keeps (view x) (λ y is. one (kinds told.tokens) y (view x) is told.spelt) told.few_steps, refl)))
  answers (Err (error.Token place)) told = of_text faults text (Err place) (Some (error.Token place)) told (inl (tt, refl))
  answers (Err error.Syntax) (tokens, is, none) = of_text faults text (Ok tokens) (Some error.Syntax) is (inl (none, refl))
  answers (Err (error.Limit Steps)) (tokens, is, (x, spelt, many)) = of_text faults text (Ok tokens) (Some (error.Limit Steps)) is (inr ((λ none. none x spelt), inl ((x, spelt, many), refl)))
  answers (Err (error.Limit Units)) told = absurd told
  answers (Err (error.Limit Theorems)) told = absurd told
  answers (Err error.Version) told = absurd told
  answers (Err error.NoMemory) told = tt

  -- a text with a first fault isn't read
  here_unread : (tokens : List Token) (fault : TextError) (y : Y) → FirstFault (faults (kinds tokens)) (Some fault) → Is (kinds tokens) y → Keeps y → ⊥
  here_unread tokens fault y (inl none) spelt keeps = none.0 y spelt
  here_unread tokens fault y (inr (some, inl (passes, is))) spelt keeps = passes.2 (subst Keeps (one (kinds tokens) y passes.0 spelt passes.1) keeps)
  here_unread tokens fault y (inr (some, inr (few, is))) spelt keeps = absurd (cc)

  pub faulty_unread : (fault : TextError) (y : Y) → TextFault (λ ts. syntax (Is ts) ∷ limit Steps (Is ts) Keeps ∷ []) text (Some fault) → Spells Is Keeps text y → ⊥
  faulty_unread fault y first reads = here_unread reads.tokens fault y (subst (λ r. FirstFault (text_faults faults r) (Some fault)) reads.lexes first) reads.spelt reads.few_steps

-- an answer that isn't want of memory is the first fault
pub first_of : (X : Type 0) (faults : List TokenKind → List Fault) (text : List ℕ) (fault : TextError) → (fault ≡ error.NoMemory → ⊥) → Answers {X = X} faults text (Err fault) → TextFault faults text (Some fault)
first_of X faults text (error.Token place) some first = first
first_of X faults text error.Version some first = first
first_of X faults text error.Syntax some first = first
first_of X faults text (error.Limit which) some first = first
first_of X faults text error.NoMemory some first = absurd (some refl)
