-- What a project keeps besides the grammar: names that differ, and its limits.
use Rattle.std.specs.Prelude.{ℕ, ◌≤◌, ◌+◌, List, [], ◌∷◌, length, map}
use Rattle.std.specs.List.{All, IsDistinct}
use Rattle.std.specs.Str.{bytes_eq}
use Rattle.kv_syn.specs.Scripts.{Script, Scripts}
use Rattle.kv_syn.specs.Projects as P
use Rattle.kv_names.specs.Names.{Name}

-- the most steps of a script
abbrev pub most_steps : ℕ
most_steps = 50000

-- the most units and the most theorems of a project
abbrev pub most_units : ℕ
most_units = 500

abbrev pub most_theorems : ℕ
most_theorems = 5000

-- no two names are equal
abbrev pub AreDifferent : List Name → Type 0
AreDifferent names = IsDistinct bytes_eq names

abbrev pub unit_names : List P.Unit → List Name
unit_names units = map (λ (unit : P.Unit). unit.name) units

abbrev pub theorem_names : P.Unit → List Name
theorem_names unit = map (λ (theorem : P.Theorem). theorem.name) unit.theorems

abbrev pub proof_names : P.Unit → List Name
proof_names unit = map (λ (proof : P.Proof). proof.name) unit.proofs

-- the names of the theorems of a unit differ, and those of its proofs
pub record HasDifferentNames (unit : P.Unit) : Type 0 where
  pub theorems : AreDifferent (theorem_names unit)
  pub proofs : AreDifferent (proof_names unit)

-- the names of the units differ, and in each unit those of the theorems and those of the proofs
pub record IsWellformed (project : P.Project) : Type 0 where
  pub units : AreDifferent (unit_names project)
  pub each : All HasDifferentNames project

-- how many steps a script has
abbrev mutual
  pub script_steps : Script → ℕ
  script_steps Script.Hole = 0
  script_steps (Script.Node step children) = 1 + scripts_steps children

  pub scripts_steps : Scripts → ℕ
  scripts_steps Scripts.none = 0
  scripts_steps (Scripts.more script rest) = script_steps script + scripts_steps rest

-- no script has too many steps
abbrev pub HasFewSteps : P.Project → Type 0
HasFewSteps project = All (λ (unit : P.Unit). All (λ (proof : P.Proof). script_steps proof.script ≤ most_steps) unit.proofs) project

-- there aren't too many units
abbrev pub HasFewUnits : P.Project → Type 0
HasFewUnits project = length project ≤ most_units

-- how many theorems a project has
abbrev pub theorem_count : List P.Unit → ℕ
theorem_count [] = 0
theorem_count (unit ∷ rest) = length unit.theorems + theorem_count rest

-- there aren't too many theorems
abbrev pub HasFewTheorems : P.Project → Type 0
HasFewTheorems project = theorem_count project ≤ most_theorems
