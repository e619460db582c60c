-- What a call that edits a project answers.
use Rattle.std.specs.Prelude.{◌≡◌, ℕ, Bool, true, List, Some, None, Result, Ok, Err, position}
use Rattle.kv_syn.specs.ProjectBridge.{plain_proof, plain_theorem, plain_unit}
use Rattle.kv_syn.specs.Projects as P
use Rattle.kv_syn.specs.Readable.{is_readable_unit}
use Rattle.kv_names.specs.Names.{Name}
use Rattle.kv_syn.specs.declared.units.Unit as units
use Rattle.kv_session.specs.Edits as spec
use Rattle.kv_session.specs.declared.edits.Edit.{Edit}
use Rattle.kv_session.specs.declared.edits.Edit.TheVariants.{Add, Theorem, Proof}
use Rattle.kv_session.specs.declared.errors.EditError.{EditError}
use Rattle.kv_session.specs.declared.errors.EditError.TheVariants.{Refused, NoMemory}
use Rattle.kv_session.specs.declared.errors.Refusal.{Refusal}
use Rattle.kv_session.specs.declared.errors.Refusal.TheVariants.{Unknown}
use Rattle.kv_session.specs.Places.{is_unit_named}

-- the edits of the code as plain data
abbrev pub plain_edit : Edit → spec.Edit
plain_edit (Add unit) = spec.Edit.Add (plain_unit unit)
plain_edit (Theorem unit theorem) = spec.Edit.Theorem unit (plain_theorem theorem)
plain_edit (Proof unit proof) = spec.Edit.Proof unit (plain_proof proof)

-- a unit that is added has a form that projects may have so far
abbrev pub is_readable_edit : Edit → Bool
is_readable_edit (Add unit) = is_readable_unit unit
is_readable_edit _ = true

-- what was made is what the answer gives, or it is the answer's refusal, unless memory ran out
abbrev pub Gives : {X : Type 0} → (X → P.Project) → Result P.Project Refusal → Result X EditError → Type 0
Gives view made (Ok x) = made ≡ Ok (view x)
Gives view made (Err (Refused refusal)) = made ≡ Err refusal
Gives view made (Err NoMemory) = Unit {0}

-- the place of the unit of that name, or that there is none
abbrev pub Finds : Name → List units.Unit → Result ℕ EditError → Type 0
Finds name units (Ok place) = position (is_unit_named name) units ≡ Some place
Finds name units (Err (Refused refusal)) = (position (is_unit_named name) units ≡ None) × (refusal ≡ Unknown name)
Finds name units (Err NoMemory) = Unit {0}
