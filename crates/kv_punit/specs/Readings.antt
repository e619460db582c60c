-- When a text is a spelling of one unit, one script or one command.
use Rattle.std.specs.Prelude.{ℕ, ◌≡◌, ◌≤◌, List, [], Result, Ok, Err}
use Rattle.kv_lex.specs.Tokens.{lexed}
use Rattle.kv_lex.specs.declared.token.Token.{Token}
use Rattle.kv_lex.specs.declared.token.TokenKind.{TokenKind}
use Rattle.kv_pexpr.specs.Gives.{kinds}
use Rattle.kv_syn.specs.Projects as P
use Rattle.kv_syn.specs.Scripts.{Script}
use Rattle.kv_punit.specs.Commands.{Command, HasShortScript, plain_command}
use Rattle.kv_punit.specs.declared.commands.Command as code
use Rattle.kv_punit.specs.Grammar.{IsCommand, IsHead, IsScript, path_steps}
use Rattle.kv_punit.specs.Limits.{most_steps, script_steps}
use Rattle.kv_punit.specs.declared.errors.TextError.{TextError}
use Rattle.kv_punit.specs.declared.errors.TextError.TheVariants as error
use Rattle.kv_punit.specs.declared.errors.Which.TheVariants.{Steps, Units, Theorems}

-- the text is a spelling of the thing: its tokens are, and the thing keeps the limit
pub record Spells {X : Type 0} (Is : List TokenKind → X → Type 0) (Keeps : X → Type 0) (text : List ℕ) (x : X) : Type 0 where
  pub tokens : List Token
  pub lexes : lexed text ≡ Ok tokens
  pub spelt : Is (kinds tokens) x
  pub few_steps : Keeps x

-- a unit without theorems and proofs, as all of the tokens
abbrev pub IsLoneHead : List TokenKind → P.Unit → Type 0
IsLoneHead ts unit = IsHead ts unit []

abbrev pub NoLimit : P.Unit → Type 0
NoLimit unit = Unit {0}

-- a script, as all of the tokens
abbrev pub IsLoneScript : List TokenKind → Script → Type 0
IsLoneScript ts script = IsScript path_steps ts script []

abbrev pub IsShort : Script → Type 0
IsShort script = script_steps script ≤ most_steps

-- the text is a spelling of the unit, of the script, of the command
abbrev pub ReadsUnit : List ℕ → P.Unit → Type 0
ReadsUnit = Spells IsLoneHead NoLimit

abbrev pub ReadsScript : List ℕ → Script → Type 0
ReadsScript = Spells IsLoneScript IsShort

abbrev pub ReadsCommand : List ℕ → Command → Type 0
ReadsCommand = Spells IsCommand HasShortScript

-- one text is one thing
abbrev pub IsOne : {X : Type 0} → (List ℕ → X → Type 0) → Type 0
IsOne {X} Spelt = (text : List ℕ) (x y : X) → Spelt text x → Spelt text y → x ≡ y
