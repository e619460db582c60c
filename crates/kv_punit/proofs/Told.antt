-- What is told of the text of a project, and of a text of one thing, by the answer to it: the thing that it spells, or one fault.
use Rattle.std.specs.Prelude.{ℕ, ◌≡◌, List, Result, Ok, Err}
use Rattle.kv_lex.specs.Tokens.{lexed}
use Rattle.kv_lex.specs.declared.token.Token.{Token}
use Rattle.kv_lex.specs.declared.token.TokenKind.{TokenKind}
use Rattle.kv_pexpr.specs.Gives.{kinds}
use Rattle.kv_syn.specs.ProjectBridge.{plain_project}
use Rattle.kv_syn.specs.declared.projects.Project.{Project}
use Rattle.kv_punit.specs.Grammar.{IsProject}
use Rattle.kv_punit.specs.ReadsAs.{IsOtherVersion, Reads}
use Rattle.kv_punit.specs.Readings.{Spells}
use Rattle.kv_punit.specs.Settles.{Settles}
use Rattle.kv_punit.specs.declared.errors.TextError.{TextError}
use Rattle.kv_punit.specs.declared.errors.TextError.TheVariants as error
use Rattle.kv_punit.specs.declared.errors.Which.TheVariants.{Steps, Units, Theorems}

-- the project of a text, or one fault
abbrev pub TellsProject : List ℕ → Result Project TextError → Type 0
TellsProject text (Ok project) = Reads text (plain_project project)
TellsProject text (Err (error.Token place)) = lexed text ≡ Err place
TellsProject text (Err error.Version) = (tokens : List Token) × (lexed text ≡ Ok tokens) × IsOtherVersion (kinds tokens)
TellsProject text (Err error.NoMemory) = Unit {0}
TellsProject text (Err fault) = (tokens : List Token) × (lexed text ≡ Ok tokens) × (IsOtherVersion (kinds tokens) → ⊥) × Settles (IsProject (kinds tokens)) (Err fault)

-- the unit, script or command of a text, or one fault
abbrev pub Tells : {X Y : Type 0} → (List TokenKind → Y → Type 0) → (Y → Type 0) → (X → Y) → List ℕ → Result X TextError → Type 0
Tells Is Keeps view text (Ok x) = Spells Is Keeps text (view x)
Tells Is Keeps view text (Err (error.Token place)) = lexed text ≡ Err place
Tells {Y = Y} Is Keeps view text (Err error.Syntax) = (tokens : List Token) × (lexed text ≡ Ok tokens) × ((y : Y) → Is (kinds tokens) y → ⊥)
Tells {Y = Y} Is Keeps view text (Err (error.Limit Steps)) = (tokens : List Token) × (lexed text ≡ Ok tokens) × ((y : Y) × Is (kinds tokens) y × (Keeps y → ⊥))
Tells Is Keeps view text (Err (error.Limit Units)) = ⊥
Tells Is Keeps view text (Err (error.Limit Theorems)) = ⊥
Tells Is Keeps view text (Err error.Version) = ⊥
Tells Is Keeps view text (Err error.NoMemory) = Unit {0}
