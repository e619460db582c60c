-- When a text is a spelling of a project.
use Rattle.std.specs.Prelude.{ℕ, ◌≡◌, ◌≢◌, List, ◌∷◌, Result, Ok, Err}
use Rattle.kv_lex.specs.Tokens.{lexed}
use Rattle.kv_lex.specs.declared.token.Token.{Token}
use Rattle.kv_lex.specs.declared.token.TokenKind.{TokenKind}
use Rattle.kv_lex.specs.declared.token.TokenKind.TheVariants.{Word, Number}
use Rattle.kv_pexpr.specs.Gives.{kinds}
use Rattle.kv_syn.specs.ProjectBridge.{plain_project}
use Rattle.kv_syn.specs.Projects as P
use Rattle.kv_syn.specs.declared.projects.Project.{Project}
use Rattle.kv_table.specs.Keywords as word
use Rattle.kv_punit.specs.Grammar.{IsProject}
use Rattle.kv_punit.specs.Limits.{IsWellformed, HasFewSteps, HasFewUnits, HasFewTheorems}
use Rattle.kv_punit.specs.declared.errors.TextError.{TextError}
use Rattle.kv_punit.specs.declared.errors.TextError.TheVariants as error
use Rattle.kv_punit.specs.declared.errors.Which.TheVariants.{Steps, Units, Theorems}

-- the text is a spelling of the project: its tokens are, names differ where they are to, and no limit is passed
pub record Reads (text : List ℕ) (project : P.Project) : Type 0 where
  pub tokens : List Token
  pub lexes : lexed text ≡ Ok tokens
  pub spelt : IsProject (kinds tokens) project
  pub wellformed : IsWellformed project
  pub few_steps : HasFewSteps project
  pub few_units : HasFewUnits project
  pub few_theorems : HasFewTheorems project

-- the answer is a fault of the text, and not want of memory
abbrev pub IsRefused : {X : Type 0} → Result X TextError → Type 0
IsRefused (Ok x) = ⊥
IsRefused (Err error.NoMemory) = ⊥
IsRefused (Err fault) = Unit {0}

-- the version that the tokens give is another one
abbrev pub IsOtherVersion : List TokenKind → Type 0
IsOtherVersion ts = (n : ℕ) × (rest : List TokenKind) × (ts ≡ Word word.PROJECT ∷ Number n ∷ rest) × (n ≢ 1)

-- the same tokens spell no two projects
abbrev pub OneSpelling : Type 0
OneSpelling = (ts : List TokenKind) (p q : P.Project) → IsProject ts p → IsProject ts q → p ≡ q

-- one text is one project
abbrev pub OneProject : Type 0
OneProject = (text : List ℕ) (p q : P.Project) → Reads text p → Reads text q → p ≡ q
