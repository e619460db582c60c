-- The edits of a project, decided on raw trees alone.
use Rattle.std.specs.Prelude.{ℕ, Bool, if◌then◌else◌, List, [], ◌∷◌, ◌++◌, Option, Some, None, Result, Ok, Err, codes, find, length, nat_lt}
use Rattle.std.specs.List.{list_any}
use Rattle.std.specs.Str.{bytes_eq}
use Rattle.kv_syn.specs.Projects as P
use Rattle.kv_names.specs.Names.{Name}
use Rattle.kv_print.specs.Layout.{project_text}
use Rattle.kv_punit.specs.Limits.{most_theorems, most_units, theorem_count}
use Rattle.kv_session.specs.declared.errors.Limit.TheVariants.{Units, Theorems, Text}
use Rattle.kv_session.specs.declared.errors.Refusal.{Refusal}
use Rattle.kv_session.specs.declared.errors.Refusal.TheVariants.{Exists, Unknown, Limit}

pub data Edit : Type 0 where
  Add : (unit : P.Unit) → Edit
  Theorem : (unit : Name) → (theorem : P.Theorem) → Edit
  Proof : (unit : Name) → (proof : P.Proof) → Edit

-- the unit of a name, if there is one
abbrev pub unit_named : Name → P.Project → Option P.Unit
unit_named name project = find (λ (unit : P.Unit). bytes_eq unit.name name) project

-- whether the unit has a theorem of that name
abbrev pub has_theorem : Name → P.Unit → Bool
has_theorem name unit = list_any (λ (theorem : P.Theorem). bytes_eq theorem.name name) unit.theorems

-- the project with its unit of that name changed
abbrev pub changed_unit : Name → (P.Unit → P.Unit) → P.Project → P.Project
changed_unit name change [] = []
changed_unit name change (unit ∷ rest) = if bytes_eq unit.name name then change unit ∷ rest else unit ∷ changed_unit name change rest

-- the unit with that theorem last
abbrev pub with_theorem : P.Theorem → P.Unit → P.Unit
with_theorem theorem unit = record unit { theorems = unit.theorems ++ theorem ∷ [] }

-- the proofs with that one in the place of the one of its name, or last
abbrev pub proofs_with : P.Proof → List P.Proof → List P.Proof
proofs_with proof [] = proof ∷ []
proofs_with proof (other ∷ rest) = if bytes_eq other.name proof.name then proof ∷ rest else other ∷ proofs_with proof rest

abbrev pub with_proof : P.Proof → P.Unit → P.Unit
with_proof proof unit = record unit { proofs = proofs_with proof unit.proofs }

-- the name of a theorem or proof of a unit
abbrev pub dotted : Name → Name → List ℕ
dotted unit name = unit ++ codes "." ++ name

-- `add`, by the unit that has the name
abbrev pub added : P.Project → P.Unit → Option P.Unit → Result P.Project Refusal
added project unit None = Ok (project ++ unit ∷ [])
added project unit (Some other) = Err (Exists unit.name)

-- `theorem`, by the unit that has the name
abbrev pub theorem_added : P.Project → Name → P.Theorem → Option P.Unit → Result P.Project Refusal
theorem_added project name theorem None = Err (Unknown name)
theorem_added project name theorem (Some unit) = if has_theorem theorem.name unit then Err (Exists (dotted name theorem.name)) else Ok (changed_unit name (with_theorem theorem) project)

-- `proof`, by the unit that has the name
abbrev pub proof_put : P.Project → Name → P.Proof → Option P.Unit → Result P.Project Refusal
proof_put project name proof None = Err (Unknown name)
proof_put project name proof (Some unit) = Ok (changed_unit name (with_proof proof) project)

-- what the edit makes of the project before its limits are asked, or the edit's own refusal
abbrev pub made : P.Project → Edit → Result P.Project Refusal
made project (Edit.Add unit) = added project unit (unit_named unit.name project)
made project (Edit.Theorem name theorem) = theorem_added project name theorem (unit_named name project)
made project (Edit.Proof name proof) = proof_put project name proof (unit_named name project)

-- the most bytes of the canonical text
abbrev pub text_limit : ℕ
text_limit = 16777216

-- whether the canonical text is longer than that
unfoldable pub is_long : P.Project → Bool
is_long project = nat_lt text_limit (length (project_text project))

-- the project, or the first limit that it passes
abbrev pub within_limits : P.Project → Result P.Project Refusal
within_limits project =
    if nat_lt most_units (length project) then Err (Limit Units)
    else (if nat_lt most_theorems (theorem_count project) then Err (Limit Theorems)
    else (if is_long project then Err (Limit Text)
    else Ok project))

-- the limits of what was made
abbrev pub limited : Result P.Project Refusal → Result P.Project Refusal
limited (Ok project) = within_limits project
limited (Err refusal) = Err refusal

-- the new project, or the first refusal
abbrev pub edited : P.Project → Edit → Result P.Project Refusal
edited project edit = limited (made project edit)
