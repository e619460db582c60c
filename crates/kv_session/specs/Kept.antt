-- What edits keep.
use Rattle.std.specs.Prelude.{◌≡◌, ◌≤◌, [], Ok}
use Rattle.kv_syn.specs.Projects as P
use Rattle.kv_punit.specs.Limits.{most_steps, script_steps}
use Rattle.kv_session.specs.Edits.{Edit, edited}

-- what is brought in is as a command spells it: a unit without theorems and proofs, a script of at most 50,000 steps
abbrev pub IsSpelt : Edit → Type 0
IsSpelt (Edit.Add unit) = (unit.theorems ≡ []) × (unit.proofs ≡ [])
IsSpelt (Edit.Theorem unit theorem) = Unit {0}
IsSpelt (Edit.Proof unit proof) = script_steps proof.script ≤ most_steps

-- an accepted edit leads from a project with that property to one
abbrev pub Keeps : (P.Project → Type 0) → Type 0
Keeps Is = (old new : P.Project) (edit : Edit) → IsSpelt edit → edited old edit ≡ Ok new → Is old → Is new

-- whatever the project was, one that an accepted edit leads to has the property
abbrev pub LeadsTo : (P.Project → Type 0) → Type 0
LeadsTo Is = (old new : P.Project) (edit : Edit) → edited old edit ≡ Ok new → Is new
