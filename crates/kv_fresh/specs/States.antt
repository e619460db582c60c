-- The states of a project, so far of basic units, from nothing but the project.
use Rattle.std.specs.Prelude.{ℕ, ◌==◌, Bool, not, ◌&&◌, nat_le, if◌then◌else◌, List, [], ◌∷◌, ◌++◌, filter, map, Option, Some, None, Result, Ok, Err}
use Rattle.std.specs.Str.{bytes_eq}
use Rattle.std.specs.List.{find, list_any}
use Rattle.kv_elab.specs.Elab.{elab_form}
use Rattle.kv_elab.specs.declared.contexts.Context.{Context}
use Rattle.kv_elab.specs.Typed.{Typed}
use Rattle.kv_flat.specs.Units.{signature_of}
use Rattle.kv_prop.specs.Limits.{is_small}
use Rattle.kv_script.specs.Events.{outcome_of, replay_events}
use Rattle.kv_script.specs.Reasons.{reason_with, typing_reason}
use Rattle.kv_sig.specs.Signatures.{profile_of}
use Rattle.kv_sig.specs.Views.{View, formula_of}
use Rattle.kv_trees.specs.Count.{form_nodes, form_depth}
use Rattle.kv_syn.specs.Projects as P
use Rattle.kv_syn.specs.Scripts.{Script}
use Rattle.kv_names.specs.Names.{Name}
use Rattle.kv_trees.specs.Trees.{Form}
use Rattle.kv_syn.specs.declared.outcomes.Fault.{Fault}
use Rattle.kv_syn.specs.declared.outcomes.Outcome.{Outcome}
use Rattle.kv_syn.specs.declared.outcomes.Reason.{Reason}
use Rattle.kv_syn.specs.declared.outcomes.Row.{Row}
use Rattle.kv_syn.specs.declared.outcomes.State.{State}
use Rattle.kv_syn.specs.declared.outcomes.State.TheVariants.{Ill, Broken, Open, Proved, Idle}
use Rattle.kv_syn.specs.declared.outcomes.Table.{Table}
use Rattle.kv_syn.specs.declared.outcomes.UnitState.{UnitState}
use Rattle.kv_syn.specs.declared.outcomes.UnitState.TheVariants.{Good, Bad}
use Rattle.kv_names.specs.declared.symbols.Symbol.{Symbol}
use Rattle.kv_table.specs.Reasons as reason

-- axioms and theorems are typed without free variables
abbrev pub nothing_around : Context
nothing_around = record { free = []; bound = []; assumed = [] }

abbrev pub small_goal : Typed Form → Result Form Reason
small_goal (Ok goal) = if is_small (form_nodes goal) (form_depth goal) then Ok goal else Err (reason_with reason.LARGE [])
small_goal (Err fault) = Err (typing_reason fault)

-- a theorem's formula, or why it is ill: its first fault of typing, or that it passes a limit of a sequent
abbrev pub goal_of : List Symbol → P.Theorem → Result Form Reason
goal_of signature theorem = small_goal (elab_form signature nothing_around theorem.form)

abbrev pub script_or_open : Option P.Proof → Script
script_or_open (Some proof) = proof.script
script_or_open None = Script.Hole

-- the script of a theorem; one without a proof is as one whose script is `open`
abbrev pub script_of : List P.Proof → Name → Script
script_of proofs name = script_or_open (find (λ (proof : P.Proof). bytes_eq proof.name name) proofs)

-- the first refused step, or else the number of open goals; without both it is closed, and so far a closed theorem
-- is proved, since it uses no other
abbrev pub shown : Option Fault → ℕ → State
shown (Some fault) goals = Broken fault.path fault.rule fault.reason
shown None goals = if goals == 0 then Proved else Open goals

abbrev pub ill_row : Name → Name → Reason → Row
ill_row unit name reason = record { unit = unit; name = name; state = Ill reason; outcome = None }

abbrev pub replayed_row : Name → Name → Outcome → Row
replayed_row unit name outcome = record { unit = unit; name = name; state = shown outcome.broken outcome.goals; outcome = Some outcome }

-- what the proofs of a unit see: its symbols, and so far no entry
abbrev pub view_over : List Symbol → View
view_over signature = record { symbol = profile_of signature; entry = formula_of [] }

-- the row of a theorem: ill, or what the replay of its script shows
abbrev pub row_where : View → Name → Name → Script → Result Form Reason → Row
row_where view unit name script (Err reason) = ill_row unit name reason
row_where view unit name script (Ok goal) = replayed_row unit name (outcome_of (replay_events view goal script))

abbrev pub row_of : Name → List Symbol → List P.Proof → P.Theorem → Row
row_of unit signature proofs theorem = row_where (view_over signature) unit theorem.name (script_of proofs theorem.name) (goal_of signature theorem)

-- the rows of a unit's theorems, in order; those of a bad unit are ill
abbrev pub theorem_rows : P.Unit → Result (List Symbol) Reason → List Row
theorem_rows unit (Ok signature) = map (row_of unit.name signature unit.proofs) unit.theorems
theorem_rows unit (Err fault) = map (λ (theorem : P.Theorem). ill_row unit.name theorem.name (reason_with reason.UNIT [])) unit.theorems

-- whether one of the theorems has the name
abbrev pub is_theorem : List P.Theorem → Name → Bool
is_theorem theorems name = list_any (λ (theorem : P.Theorem). bytes_eq theorem.name name) theorems

-- a proof whose name is not the name of a theorem of its unit is idle
abbrev pub is_idle : List P.Theorem → P.Proof → Bool
is_idle theorems proof = not (is_theorem theorems proof.name)

abbrev pub idle_row : Name → P.Proof → Row
idle_row unit proof = record { unit = unit; name = proof.name; state = Idle; outcome = None }

-- the rows of a unit's idle proofs, in order, be the unit good or bad
abbrev pub idle_rows : P.Unit → List Row
idle_rows unit = map (idle_row unit.name) (filter (is_idle unit.theorems) unit.proofs)

-- the rows of a unit: those of its theorems, then those of its idle proofs
abbrev pub rows_where : P.Unit → Result (List Symbol) Reason → List Row
rows_where unit found = theorem_rows unit found ++ idle_rows unit

abbrev pub state_where : Result (List Symbol) Reason → UnitState
state_where (Ok signature) = Good
state_where (Err fault) = Bad fault

abbrev pub rows_of : P.Project → List Row
rows_of [] = []
rows_of (unit ∷ units) = rows_where unit (signature_of unit) ++ rows_of units

abbrev pub unit_state : P.Unit → Name × UnitState
unit_state unit = (unit.name, state_where (signature_of unit))

-- the states of the units, and their rows unit by unit
abbrev pub table_of : P.Project → Table
table_of project = record { units = map unit_state project; rows = rows_of project }
