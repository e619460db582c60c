-- What a session answers to the text of a command, and what becomes of its project.
use Rattle.std.specs.Prelude.{ℕ, ◌≡◌, ◌⊎◌, Bool, true, false, List, Option, Some, None, Ok, Err, codes}
use Rattle.kv_fresh.specs.States.{table_of}
use Rattle.kv_print.specs.Layout.{project_text}
use Rattle.kv_punit.specs.Commands.{Command}
use Rattle.kv_punit.specs.FirstFault.{TextFault, command_faults}
use Rattle.kv_punit.specs.ReadsAs.{Reads}
use Rattle.kv_punit.specs.Readings.{ReadsCommand}
use Rattle.kv_punit.specs.declared.errors.TextError.{TextError}
use Rattle.kv_query.specs.Replies.{status_text}
use Rattle.kv_session.specs.Edits.{Edit, edited}
use Rattle.kv_session.specs.Replies.{accepted_text, fault_text, refused_text}
use Rattle.kv_session.specs.declared.errors.Refusal.{Refusal}
use Rattle.kv_session.specs.declared.session.Session.{Session}
use Rattle.kv_syn.specs.ProjectBridge.{plain_project}
use Rattle.kv_syn.specs.Projects as P
use Rattle.kv_syn.specs.declared.outcomes.Table.{Table}

-- the project that a session stands for
unfoldable pub project_of : Session → P.Project
project_of session = plain_project session.project

-- the text of a project, as it is saved
unfoldable pub text_of : P.Project → List ℕ
text_of project = project_text project

-- the edit that a command asks for
abbrev pub edit_of : Command → Option Edit
edit_of (Command.Add unit) = Some (Edit.Add unit)
edit_of (Command.Theorem unit theorem) = Some (Edit.Theorem unit theorem)
edit_of (Command.Proof unit proof) = Some (Edit.Proof unit proof)
edit_of other = None

-- the text is no command, and this is its first fault
abbrev pub HasFault : List ℕ → TextError → Type 0
HasFault text fault = TextFault command_faults text (Some fault)

-- the table is that of the project that the canonical text reads as, checked from nothing but that text
abbrev pub IsTable : P.Project → Table → Type 0
IsTable project table = (read : P.Project) × Reads (project_text project) read × (table ≡ table_of read)

-- the answer to a text, whether the project is stored before it is given, and the project after it
pub data IsAnswered : (project : P.Project) → (text answer : List ℕ) → (saves : Bool) → (after : P.Project) → Type 0 where
  unread : {project : P.Project} {text answer : List ℕ} (fault : TextError)
      → HasFault text fault → fault_text fault ≡ Some answer
      → IsAnswered project text answer false project
  refused : {project : P.Project} {text : List ℕ} {command : Command} {edit : Edit} {refusal : Refusal}
      → ReadsCommand text command → edit_of command ≡ Some edit → edited project edit ≡ Err refusal
      → IsAnswered project text (refused_text refusal) false project
  accepted : {project after : P.Project} {text : List ℕ} {command : Command} {edit : Edit} {table : Table}
      → ReadsCommand text command → edit_of command ≡ Some edit → edited project edit ≡ Ok after → IsTable after table
      → IsAnswered project text (accepted_text table) false after
  status : {project : P.Project} {text : List ℕ} {table : Table}
      → ReadsCommand text Command.Status → IsTable project table
      → IsAnswered project text (status_text table) false project
  save : {project : P.Project} {text : List ℕ}
      → ReadsCommand text Command.Save
      → IsAnswered project text (codes "saved\n.\n") true project

-- what an edit is answered with, and the project after it
abbrev pub IsEdited : P.Project → Edit → List ℕ → P.Project → Type 0
IsEdited project edit answer after =
    ((edited project edit ≡ Ok after) × (answer ≡ accepted_text (table_of after)))
    ⊎ ((refusal : Refusal) × (edited project edit ≡ Err refusal) × (answer ≡ refused_text refusal) × (after ≡ project))

-- one text is answered in one way
abbrev pub OneAnswer : Type 0
OneAnswer = (project : P.Project) (text answer answer' : List ℕ) (saves saves' : Bool) (after after' : P.Project)
    → IsAnswered project text answer saves after → IsAnswered project text answer' saves' after'
    → (answer ≡ answer') × (saves ≡ saves') × (after ≡ after')
