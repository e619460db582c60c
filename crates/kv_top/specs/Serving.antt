-- How it goes with one command of a run.
use Rattle.std.specs.Prelude.{◌≡◌, ℕ, Bool, true, List, [], ◌∷◌, Option, Some, None, IfSome, Result, Ok, Err, if◌then◌else◌}
use Rattle.kv_io.specs.Outside.{Adds, AddsFront}
use Rattle.kv_session.specs.Sessions.{text_of}
use Rattle.kv_syn.specs.Projects as P
use Rattle.kv_top.specs.Runs.{Told, Keeps}
use Rattle.kv_top.specs.Turns.{Turn, IsTurn}
use Rattle.kv_top.specs.declared.status.Status.{Status}
use Rattle.kv_top.specs.declared.status.Status.TheVariants.{NoMemory, StoreFault, WriteFault}

-- the project was saved where that was asked, or how that failed
abbrev pub Saves : (asked : Bool) → P.Project → (old new : Option (Option (List ℕ))) → Result (Unit {0}) Status → Type 0
Saves asked project old new (Ok done) = IfSome old (λ file. new ≡ Some (if asked then Some (text_of project) else file))
Saves asked project old new (Err StoreFault) = (asked ≡ true) × (new ≡ None)
Saves asked project old new (Err NoMemory) = new ≡ old
Saves asked project old new (Err status) = ⊥

-- the turn of a command at a project
pub record TurnOf (project : P.Project) (command : List ℕ) : Type 0 where
  pub turn : Turn
  pub asks : turn.command ≡ command
  pub answered : IsTurn project turn

-- the turn of the command was taken whole and leads to that project, or how it failed
abbrev pub Takes : P.Project → (command : List ℕ) → (after : P.Project) → (old new : Told) → Result (Unit {0}) Status → Type 0
Takes project command after old new (Ok done) =
    (one : TurnOf project command) × (after ≡ one.turn.after) × Adds old.wrote one.turn.answer new.wrote × Keeps old.held (one.turn ∷ []) new.held
Takes project command after old new (Err StoreFault) =
    (one : TurnOf project command) × (one.turn.saves ≡ true) × (new.wrote ≡ old.wrote) × (new.held ≡ None)
Takes project command after old new (Err WriteFault) =
    (one : TurnOf project command) × AddsFront old.wrote one.turn.answer new.wrote × Keeps old.held (one.turn ∷ []) new.held
Takes project command after old new (Err NoMemory) = (new.wrote ≡ old.wrote) × (new.held ≡ old.held)
Takes project command after old new (Err status) = ⊥
