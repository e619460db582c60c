-- What a call of the program says, by what it is asked to do.
use Rattle.std.specs.Prelude.{◌≡◌, ◌⊎◌, ℕ, List, Option, Some, None, IfSome, IsSomeAnd}
use Rattle.kv_fresh.specs.Backing.{IsBacked}
use Rattle.kv_io.specs.Framing.{cut_of}
use Rattle.kv_io.specs.Framing as framing
use Rattle.kv_io.specs.Outside.{Rose}
use Rattle.kv_syn.specs.Projects as P
use Rattle.kv_top.specs.Files.{IsLong, IsUnreadable, Says, Spells}
use Rattle.kv_top.specs.Runs.{Told, Served}
use Rattle.kv_top.specs.Turns.{Turn, Follow, project_after}
use Rattle.kv_top.specs.declared.status.Status.{Status}
use Rattle.kv_top.specs.declared.status.Status.TheVariants.{Done, Usage, ReadFault, WriteFault, NoMemory, StoreFault, Refused, Cut, TooLong, NoProject}
use Rattle.kv_top.specs.declared.words.Mode.{Mode}
use Rattle.kv_top.specs.declared.words.Mode.TheVariants.{Check, Run}

-- nothing was read, written or saved
pub record IsIdle (input rest : List ℕ) (old new : Told) : Type 0 where
  pub unread : rest ≡ input
  pub wrote : new.wrote ≡ old.wrote
  pub held : new.held ≡ old.held

-- the file is a spelling of a project, and the input was answered from that on
abbrev pub ServesFile : Option (List ℕ) → (input rest : List ℕ) → (old new : Told) → Status → Type 0
ServesFile file input rest old new status = (project : P.Project) × Spells file project × Served project input rest old new status

-- what a status says of `run`, where there is no file or it has these bytes, and of the input, of which this rest wasn't
-- taken
abbrev pub RunSays : (file : Option (List ℕ)) → (input rest : List ℕ) → (old new : Told) → Status → Type 0
RunSays file input rest old new Done = ServesFile file input rest old new Done
RunSays file input rest old new ReadFault = ServesFile file input rest old new ReadFault
RunSays file input rest old new WriteFault = ServesFile file input rest old new WriteFault
RunSays file input rest old new Cut = ServesFile file input rest old new Cut
RunSays file input rest old new StoreFault = IsIdle input rest old new ⊎ ServesFile file input rest old new StoreFault
RunSays file input rest old new NoMemory = IsIdle input rest old new ⊎ ServesFile file input rest old new NoMemory
RunSays file input rest old new TooLong = (IsLong file × IsIdle input rest old new) ⊎ ServesFile file input rest old new TooLong
RunSays file input rest old new Refused = IsUnreadable file × IsIdle input rest old new
RunSays file input rest old new NoProject = (file ≡ None) × IsIdle input rest old new
RunSays file input rest old new Usage = ⊥

-- the same, where the store and the input tell
pub record RunTells (left left' : Option (List ℕ)) (old new : Told) (status : Status) : Type 0 where
  pub told : IfSome old.held (λ file. IfSome left (λ input. (rest : List ℕ) × (left' ≡ Some rest) × RunSays file input rest old new status))

-- what a call says in each mode
abbrev pub Calls : Mode → (left left' : Option (List ℕ)) → (old new : Told) → Status → Type 0
Calls Check left left' old new status = IfSome old.held (λ file. Says file old.wrote new.wrote status)
Calls Run left left' old new status = RunTells left left' old new status

-- the statuses of each mode
abbrev pub IsStatusOf : Mode → Status → Type 0
IsStatusOf Check Usage = ⊥
IsStatusOf Check ReadFault = ⊥
IsStatusOf Check Cut = ⊥
IsStatusOf Check status = Unit {0}
IsStatusOf Run Usage = ⊥
IsStatusOf Run status = Unit {0}

-- no fault came in a call, of which the counts at its beginning and its end are these
abbrev pub IsQuiet : ℕ → ℕ → Type 0
IsQuiet before now = Rose before now → ⊥

-- the store tells that the file is a spelling of some project, and where the input is read, it tells that it ends behind a
-- command
abbrev pub IsWhole : Mode → (left : Option (List ℕ)) → (held : Option (Option (List ℕ))) → Type 0
IsWhole Check left held = IsSomeAnd held (λ file. (project : P.Project) × Spells file project)
IsWhole Run left held = IsSomeAnd held (λ file. (project : P.Project) × Spells file project)
    × IsSomeAnd left (λ input. (cut_of input).ending ≡ framing.End)

-- whatever project the file in the store is a spelling of, and whatever commands lead on from it: where a theorem is shown
-- as proved, it has a derivation
abbrev pub HasBacking : Option (Option (List ℕ)) → Type 0
HasBacking held = IfSome held (λ file. (project : P.Project) → Spells file project
    → (turns : List Turn) → Follow project turns → IsBacked (project_after project turns))
