-- How many steps the check of a project counts: one a unit, and those that the replays of its theorems visit.
use Rattle.std.specs.Prelude.{ℕ, ◌+◌, List, [], ◌∷◌, Result, Ok, Err}
use Rattle.kv_flat.specs.Units.{signature_of}
use Rattle.kv_fresh.specs.States.{goal_of, script_of, view_over}
use Rattle.kv_names.specs.declared.symbols.Symbol.{Symbol}
use Rattle.kv_script.specs.Events.{replay_events, visits}
use Rattle.kv_sig.specs.Views.{View}
use Rattle.kv_syn.specs.Projects as P
use Rattle.kv_syn.specs.Scripts.{Script}
use Rattle.kv_syn.specs.declared.outcomes.Reason.{Reason}
use Rattle.kv_trees.specs.Trees.{Form}

-- a theorem that is ill has no replay
abbrev pub visits_where : View → Script → Result Form Reason → ℕ
visits_where view script (Ok goal) = visits (replay_events view goal script)
visits_where view script (Err reason) = 0

-- of a theorem, over a signature, with the proofs of its unit
abbrev pub theorem_work : List Symbol → List P.Proof → P.Theorem → ℕ
theorem_work signature proofs theorem = visits_where (view_over signature) (script_of proofs theorem.name) (goal_of signature theorem)

abbrev pub theorems_work : List Symbol → List P.Proof → List P.Theorem → ℕ
theorems_work signature proofs [] = 0
theorems_work signature proofs (theorem ∷ theorems) = theorem_work signature proofs theorem + theorems_work signature proofs theorems

-- the theorems of a bad unit have no replay
abbrev pub unit_work : P.Unit → Result (List Symbol) Reason → ℕ
unit_work unit (Ok signature) = 1 + theorems_work signature unit.proofs unit.theorems
unit_work unit (Err fault) = 1

abbrev pub work_of : P.Project → ℕ
work_of [] = 0
work_of (unit ∷ units) = unit_work unit (signature_of unit) + work_of units
