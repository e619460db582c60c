-- What loading the file says, and what a call of `check` says of the file in the store and what it writes.
use Rattle.std.specs.Prelude.{◌≡◌, ◌≤◌, ◌<◌, ℕ, List, length, Option, None, Result, Ok, Err, IsSomeAnd}
use Rattle.kv_fresh.specs.States.{table_of}
use Rattle.kv_io.specs.Outside.{Adds, AddsFront}
use Rattle.kv_io.specs.Limits.{file_limit}
use Rattle.kv_punit.specs.ReadsAs.{Reads}
use Rattle.kv_punit.specs.declared.errors.TextError.{TextError}
use Rattle.kv_punit.specs.declared.errors.TextError.TheVariants as text
use Rattle.kv_query.specs.Replies.{status_text}
use Rattle.kv_syn.specs.ProjectBridge.{plain_project}
use Rattle.kv_syn.specs.Projects as P
use Rattle.kv_syn.specs.declared.projects.Project.{Project}
use Rattle.kv_top.specs.declared.status.Status.{Status}
use Rattle.kv_top.specs.declared.status.Status.TheVariants.{Done, Usage, ReadFault, WriteFault, NoMemory, StoreFault, Refused, Cut, TooLong, NoProject}

-- the file is there, isn't too long, and is a spelling of the project
abbrev pub Spells : Option (List ℕ) → P.Project → Type 0
Spells file project = IsSomeAnd file (λ bytes. (length bytes ≤ file_limit) × Reads bytes project)

-- the file is too long
abbrev pub IsLong : Option (List ℕ) → Type 0
IsLong file = IsSomeAnd file (λ bytes. file_limit < length bytes)

-- the file isn't too long, and is no spelling of a project
abbrev pub IsUnreadable : Option (List ℕ) → Type 0
IsUnreadable file = IsSomeAnd file (λ bytes. (length bytes ≤ file_limit) × ((project : P.Project) → Reads bytes project → ⊥))

-- the answer to `status` for a project
unfoldable pub answer_of : P.Project → List ℕ
answer_of project = status_text (table_of project)

-- what a status says of the file, where there is none or it has these bytes, and of what the output has taken before
-- and after the call, where it tells that: all of the answer, a front of it, or nothing
abbrev pub Says : Option (List ℕ) → Option (List ℕ) → Option (List ℕ) → Status → Type 0
Says file before after Done = (project : P.Project) × Spells file project × Adds before (answer_of project) after
Says file before after WriteFault = (project : P.Project) × Spells file project × AddsFront before (answer_of project) after
Says file before after NoProject = (file ≡ None) × (after ≡ before)
Says file before after TooLong = IsLong file × (after ≡ before)
Says file before after Refused = IsUnreadable file × (after ≡ before)
Says file before after StoreFault = after ≡ before
Says file before after NoMemory = after ≡ before
Says file before after Usage = after ≡ before
Says file before after ReadFault = ⊥
Says file before after Cut = ⊥

-- the status for a text that isn't read
abbrev pub status_of : TextError → Status
status_of (text.Token place) = Refused
status_of text.Version = Refused
status_of text.Syntax = Refused
status_of (text.Limit which) = Refused
status_of text.NoMemory = NoMemory

-- what reading says of bytes
abbrev pub ReadSays : List ℕ → Result Project Status → Type 0
ReadSays bytes (Ok project) = Reads bytes (plain_project project)
ReadSays bytes (Err Refused) = (project : P.Project) → Reads bytes project → ⊥
ReadSays bytes (Err NoMemory) = Unit {0}
ReadSays bytes (Err _) = ⊥

-- what a load says of the file
abbrev pub LoadSays : Option (List ℕ) → Result Project Status → Type 0
LoadSays file (Ok project) = Spells file (plain_project project)
LoadSays file (Err NoProject) = file ≡ None
LoadSays file (Err TooLong) = IsLong file
LoadSays file (Err Refused) = IsUnreadable file
LoadSays file (Err StoreFault) = Unit {0}
LoadSays file (Err NoMemory) = Unit {0}
LoadSays file (Err _) = ⊥

-- the statuses where no project was loaded
abbrev pub IsUnloaded : Status → Type 0
IsUnloaded NoProject = Unit {0}
IsUnloaded TooLong = Unit {0}
IsUnloaded Refused = Unit {0}
IsUnloaded StoreFault = Unit {0}
IsUnloaded NoMemory = Unit {0}
IsUnloaded _ = ⊥

-- what the last part of a call says, of the project that was loaded
abbrev pub Shows : P.Project → Option (List ℕ) → Option (List ℕ) → Status → Type 0
Shows project before after Done = Adds before (answer_of project) after
Shows project before after WriteFault = AddsFront before (answer_of project) after
Shows project before after NoMemory = after ≡ before
Shows project before after _ = ⊥
