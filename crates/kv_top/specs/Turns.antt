-- The commands of a run, one after another, each with its answer.
use Rattle.std.specs.Prelude.{ℕ, Bool, List, [], ◌∷◌, map, Option, Some, if◌then◌else◌}
use Rattle.std.specs.List.{flat_map}
use Rattle.kv_session.specs.Sessions.{IsAnswered, text_of}
use Rattle.kv_syn.specs.Projects as P

-- a command, its answer, whether the project is saved before that is written, and the project after it
pub record Turn : Type 0 where
  pub command : List ℕ
  pub answer : List ℕ
  pub saves : Bool
  pub after : P.Project

-- at this project the command is answered so
abbrev pub IsTurn : P.Project → Turn → Type 0
IsTurn project turn = IsAnswered project turn.command turn.answer turn.saves turn.after

-- each turn is at the project after the one before
abbrev pub Follow : P.Project → List Turn → Type 0
Follow project [] = Unit {0}
Follow project (turn ∷ turns) = IsTurn project turn × Follow turn.after turns

-- the project after turns
abbrev pub project_after : P.Project → List Turn → P.Project
project_after project [] = project
project_after project (turn ∷ turns) = project_after turn.after turns

abbrev pub commands_of : List Turn → List (List ℕ)
commands_of turns = map (λ (turn : Turn). turn.command) turns

-- the answers, joined
abbrev pub answers_of : List Turn → List ℕ
answers_of turns = flat_map (λ (turn : Turn). turn.answer) turns

-- the file after one turn: the project's text, where it was saved
abbrev pub file_with : Option (List ℕ) → Turn → Option (List ℕ)
file_with file turn = if turn.saves then Some (text_of turn.after) else file

-- the file after turns: the project's text at the last one that saved, or the file as it was
abbrev pub file_after : Option (List ℕ) → List Turn → Option (List ℕ)
file_after file [] = file
file_after file (turn ∷ turns) = file_after (file_with file turn) turns
