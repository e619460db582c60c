-- What reading and loading say, together.
use Rattle.std.proofs.Common.{◌≡◌, ◌≤◌, ℕ, List, length, Option, Some, None, Result, Ok, Err, IfErr, IfSome, sym, subst}
use Rattle.kv_io.specs.Limits.{file_limit}
use Rattle.kv_punit.specs.ReadsAs.{Reads, IsRefused}
use Rattle.kv_punit.specs.declared.errors.TextError.{TextError}
use Rattle.kv_punit.specs.declared.errors.TextError.TheVariants as text
use Rattle.kv_syn.specs.declared.projects.Project.{Project}
use Rattle.kv_syn.specs.Projects as P
use Rattle.kv_top.specs.Files.{IsUnloaded, LoadSays, ReadSays, status_of}
use Rattle.kv_top.specs.declared.status.Status.{Status}
use Rattle.kv_top.specs.declared.status.Status.TheVariants.{Done, Usage, ReadFault, WriteFault, NoMemory, StoreFault, Refused, Cut, TooLong, NoProject}

-- a text that was refused is no project's, but for want of memory
pub says_refused : (bytes : List ℕ) (fault : TextError) → (IsRefused {X = Project} (Err fault) → (project : P.Project) → Reads bytes project → ⊥) → (status : Status) → status ≡ status_of fault → ReadSays bytes (Err status)
says_refused bytes fault h status e = subst (λ s. ReadSays bytes (Err s)) (sym e) (go fault h)
  where
    go : (fault : TextError) → (IsRefused {X = Project} (Err fault) → (project : P.Project) → Reads bytes project → ⊥) → ReadSays bytes (Err (status_of fault))
    go (text.Token place) h = h tt
    go text.Version h = h tt
    go text.Syntax h = h tt
    go (text.Limit which) h = h tt
    go text.NoMemory h = tt

-- bytes that were loaded were read
pub says_read : (bytes : List ℕ) (result : Result Project Status) → length bytes ≤ file_limit → ReadSays bytes result → LoadSays (Some bytes) result
says_read bytes (Ok project) small h = (small, h)
says_read bytes (Err Refused) small h = (small, h)
says_read bytes (Err NoMemory) small h = tt
says_read bytes (Err Done) small h = h
says_read bytes (Err Usage) small h = h
says_read bytes (Err ReadFault) small h = h
says_read bytes (Err WriteFault) small h = h
says_read bytes (Err StoreFault) small h = absurd h
says_read bytes (Err Cut) small h = h
says_read bytes (Err TooLong) small h = absurd h
says_read bytes (Err NoProject) small h = absurd h

pub says_held : (held : Option (Option (List ℕ))) (bytes : List ℕ) (result : Result Project Status) → length bytes ≤ file_limit → IfSome held (λ file. file ≡ Some bytes)
    → ReadSays bytes result → IfSome held (λ file. LoadSays file result)
says_held None bytes result small told h = tt
says_held (Some file) bytes result small told h = subst (λ f. LoadSays f result) (sym told) (says_read bytes result small h)

-- reading gives no other status
pub read_among : (bytes : List ℕ) (result : Result Project Status) → ReadSays bytes result → IfErr result (λ status. IsUnloaded status)
read_among bytes (Ok project) h = tt
read_among bytes (Err Refused) h = tt
read_among bytes (Err NoMemory) h = tt
read_among bytes (Err NoProject) h = absurd h
read_among bytes (Err TooLong) h = absurd h
read_among bytes (Err StoreFault) h = absurd h
read_among bytes (Err Done) h = h
read_among bytes (Err Usage) h = h
read_among bytes (Err ReadFault) h = h
read_among bytes (Err WriteFault) h = h
read_among bytes (Err Cut) h = h

pub read_no_fault : (bytes : List ℕ) (result : Result Project Status) → ReadSays bytes result → result ≡ Err StoreFault → ⊥
read_no_fault bytes result h e = subst (λ r. ReadSays bytes r) e h
