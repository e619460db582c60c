-- Sets of statuses, and the words and the exit code for a status.
use Rattle.std.specs.Prelude.{◌≡◌, ◌⊎◌, ℕ, List, [], ◌∷◌, codes}
use Rattle.kv_top.specs.declared.status.Status.{Status}
use Rattle.kv_top.specs.declared.status.Status.TheVariants.{Done, Usage, ReadFault, WriteFault, NoMemory, StoreFault, Refused, Cut, TooLong, NoProject}

-- it is one of these
abbrev pub IsAmong : Status → List Status → Type 0
IsAmong status [] = ⊥
IsAmong status (s ∷ ss) = (status ≡ s) ⊎ IsAmong status ss

-- the words
abbrev pub message_of : Status → List ℕ
message_of Done = codes "done"
message_of Usage = codes "usage"
message_of ReadFault = codes "read fault"
message_of WriteFault = codes "write fault"
message_of NoMemory = codes "no memory"
message_of StoreFault = codes "store fault"
message_of Refused = codes "project refused"
message_of Cut = codes "cut"
message_of TooLong = codes "too long"
message_of NoProject = codes "no project"

-- the exit code
abbrev pub code_of : Status → ℕ
code_of Done = 0
code_of Usage = 2
code_of ReadFault = 3
code_of WriteFault = 4
code_of NoMemory = 5
code_of StoreFault = 6
code_of Refused = 7
code_of Cut = 8
code_of TooLong = 9
code_of NoProject = 10
