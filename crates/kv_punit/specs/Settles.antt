-- What the parts of the readers say.
use Rattle.std.specs.Prelude.{◌≡◌, Result, Ok, Err}
use Rattle.kv_syn.specs.ProjectBridge.{plain_project}
use Rattle.kv_syn.specs.Projects as P
use Rattle.kv_syn.specs.declared.projects.Project.{Project}
use Rattle.kv_punit.specs.Commands.{HasShortScript, plain_command}
use Rattle.kv_punit.specs.declared.commands.Command as code
use Rattle.kv_punit.specs.Limits.{IsWellformed, HasFewSteps, HasFewUnits, HasFewTheorems}
use Rattle.kv_punit.specs.declared.errors.TextError.{TextError}
use Rattle.kv_punit.specs.declared.errors.TextError.TheVariants as error
use Rattle.kv_punit.specs.declared.errors.Which.TheVariants.{Steps, Units, Theorems}

-- what is answered where these projects are spelt: the one that is wellformed and passes no limit, or the first fault
abbrev pub Settles : (P.Project → Type 0) → Result Project TextError → Type 0
Settles Is (Ok project) = Is (plain_project project) × IsWellformed (plain_project project) × HasFewSteps (plain_project project) × HasFewUnits (plain_project project) × HasFewTheorems (plain_project project)
Settles Is (Err error.Syntax) = (project : P.Project) → Is project → IsWellformed project → ⊥
Settles Is (Err (error.Limit Steps)) = (project : P.Project) × Is project × IsWellformed project × (HasFewSteps project → ⊥)
Settles Is (Err (error.Limit Units)) = (project : P.Project) × Is project × IsWellformed project × HasFewSteps project × (HasFewUnits project → ⊥)
Settles Is (Err (error.Limit Theorems)) = (project : P.Project) × Is project × IsWellformed project × HasFewSteps project × HasFewUnits project × (HasFewTheorems project → ⊥)
Settles Is (Err (error.Token place)) = ⊥
Settles Is (Err error.Version) = ⊥
Settles Is (Err error.NoMemory) = Unit {0}

-- the command itself, where its script is short, or the limit that it passes
abbrev pub Limits : code.Command → Result code.Command TextError → Type 0
Limits command (Ok found) = (found ≡ command) × HasShortScript (plain_command command)
Limits command (Err fault) = (fault ≡ error.Limit Steps) × (HasShortScript (plain_command command) → ⊥)
