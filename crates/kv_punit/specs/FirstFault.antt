-- Which fault a text has first.
use Rattle.std.specs.Prelude.{ℕ, ◌≡◌, ◌⊎◌, List, [], ◌∷◌, Option, Some, None, Result, Ok, Err}
use Rattle.kv_lex.specs.Texts.{Lexed}
use Rattle.kv_lex.specs.Tokens.{lexed}
use Rattle.kv_lex.specs.declared.token.TokenKind.{TokenKind}
use Rattle.kv_pexpr.specs.Gives.{kinds}
use Rattle.kv_syn.specs.Projects as P
use Rattle.kv_punit.specs.Commands.{HasShortScript}
use Rattle.kv_punit.specs.Grammar.{IsCommand, IsProject}
use Rattle.kv_punit.specs.Limits.{IsWellformed, HasFewSteps, HasFewUnits, HasFewTheorems}
use Rattle.kv_punit.specs.Readings.{IsLoneHead, IsLoneScript, IsShort}
use Rattle.kv_punit.specs.ReadsAs.{IsOtherVersion}
use Rattle.kv_punit.specs.declared.errors.TextError.{TextError}
use Rattle.kv_punit.specs.declared.errors.TextError.TheVariants.{Token, Version, Syntax, Limit, NoMemory}
use Rattle.kv_punit.specs.declared.errors.Which.{Which}
use Rattle.kv_punit.specs.declared.errors.Which.TheVariants.{Steps, Units, Theorems}

-- a fault, and when it is there
abbrev pub Fault : Type 1
Fault = TextError × Type 0

-- of some faults in order, the first one that is there, or none where none is
abbrev pub FirstFault : List Fault → Option TextError → Type 0
FirstFault [] first = first ≡ None
FirstFault (fault ∷ others) first = (fault.1 × (first ≡ Some fault.0)) ⊎ ((fault.1 → ⊥) × FirstFault others first)

-- nothing is spelt
abbrev pub syntax : {X : Type 0} → (X → Type 0) → Fault
syntax {X} Is = (Syntax, (x : X) → Is x → ⊥)

-- what is spelt passes a limit
abbrev pub limit : {X : Type 0} → Which → (X → Type 0) → (X → Type 0) → Fault
limit {X} which Is Keeps = (Limit which, (x : X) × Is x × (Keeps x → ⊥))

-- a project whose names differ where they are to
abbrev pub IsNamed : List TokenKind → P.Project → Type 0
IsNamed ts project = IsProject ts project × IsWellformed project

-- the faults of tokens that are to be a project, a unit, a script, a command
abbrev pub project_faults : List TokenKind → List Fault
project_faults ts =
    (Version, IsOtherVersion ts) ∷ syntax (IsNamed ts) ∷ limit Steps (IsNamed ts) HasFewSteps ∷ limit Units (IsNamed ts) HasFewUnits
    ∷ limit Theorems (IsNamed ts) HasFewTheorems ∷ []

abbrev pub unit_faults : List TokenKind → List Fault
unit_faults ts = syntax (IsLoneHead ts) ∷ []

abbrev pub script_faults : List TokenKind → List Fault
script_faults ts = syntax (IsLoneScript ts) ∷ limit Steps (IsLoneScript ts) IsShort ∷ []

abbrev pub command_faults : List TokenKind → List Fault
command_faults ts = syntax (IsCommand ts) ∷ limit Steps (IsCommand ts) HasShortScript ∷ []

-- the faults of a text: a byte from which no token reads, or those of its tokens
abbrev pub text_faults : (List TokenKind → List Fault) → Lexed → List Fault
text_faults faults (Err place) = (Token place, Unit {0}) ∷ []
text_faults faults (Ok tokens) = faults (kinds tokens)

-- the first fault of a text
abbrev pub TextFault : (List TokenKind → List Fault) → List ℕ → Option TextError → Type 0
TextFault faults text first = FirstFault (text_faults faults (lexed text)) first

-- a text that is read has no fault; one that isn't is answered with its first, but for want of memory
abbrev pub Answers : {X : Type 0} → (List TokenKind → List Fault) → List ℕ → Result X TextError → Type 0
Answers faults text (Ok x) = TextFault faults text None
Answers faults text (Err NoMemory) = Unit {0}
Answers faults text (Err fault) = TextFault faults text (Some fault)
