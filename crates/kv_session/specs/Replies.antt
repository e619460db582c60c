-- The answers to edits and to texts that aren't read, as texts.
use Rattle.std.specs.Prelude.{ℕ, Bool, true, false, List, ◌++◌, Option, Some, None, codes, count_by, decimal}
use Rattle.std.specs.Option.{option_map}
use Rattle.kv_punit.specs.declared.errors.TextError.{TextError}
use Rattle.kv_punit.specs.declared.errors.TextError.TheVariants as fault
use Rattle.kv_punit.specs.declared.errors.Which.TheVariants.{Steps}
use Rattle.kv_session.specs.declared.errors.Limit as limits
use Rattle.kv_session.specs.declared.errors.Limit.TheVariants.{Units, Theorems, Text}
use Rattle.kv_session.specs.declared.errors.Refusal.{Refusal}
use Rattle.kv_session.specs.declared.errors.Refusal.TheVariants.{Exists, Unknown, Limit}
use Rattle.kv_syn.specs.declared.outcomes.Row.{Row}
use Rattle.kv_syn.specs.declared.outcomes.State.{State}
use Rattle.kv_syn.specs.declared.outcomes.State.TheVariants.{Ill, Broken, Open, Proved, Waiting, Cyclic, Idle}
use Rattle.kv_syn.specs.declared.outcomes.Table.{Table}

-- an answer of one line, with the line that ends it
abbrev pub line_text : List ℕ → List ℕ
line_text line = line ++ codes "\n.\n"

abbrev pub is_valid : State → Bool
is_valid Proved = true
is_valid _ = false

abbrev pub is_open : State → Bool
is_open (Open goals) = true
is_open (Waiting need) = true
is_open _ = false

abbrev pub is_invalid : State → Bool
is_invalid (Ill reason) = true
is_invalid (Broken path rule reason) = true
is_invalid Cyclic = true
is_invalid Idle = true
is_invalid _ = false

-- how many rows of a table have such a state
abbrev pub count_of : (State → Bool) → Table → ℕ
count_of test table = count_by (λ (row : Row). test row.state) table.rows

-- the answer to an accepted edit, by the table after it
abbrev pub accepted_text : Table → List ℕ
accepted_text table = line_text (codes "ok valid " ++ decimal (count_of is_valid table) ++ codes " open " ++ decimal (count_of is_open table) ++ codes " invalid " ++ decimal (count_of is_invalid table))

abbrev pub limit_word : limits.Limit → List ℕ
limit_word Units = codes "units"
limit_word Theorems = codes "theorems"
limit_word Text = codes "text"

abbrev pub refusal_line : Refusal → List ℕ
refusal_line (Exists label) = codes "no exists " ++ label
refusal_line (Unknown label) = codes "no unknown " ++ label
refusal_line (Limit limit) = codes "no limit " ++ limit_word limit

-- the answer to a refused edit
abbrev pub refused_text : Refusal → List ℕ
refused_text refusal = line_text (refusal_line refusal)

-- the line for a command that isn't read; commands have no other faults
abbrev pub fault_line : TextError → Option (List ℕ)
fault_line (fault.Token place) = Some (codes "no token " ++ decimal place)
fault_line fault.Syntax = Some (codes "no syntax")
fault_line (fault.Limit Steps) = Some (codes "no limit steps")
fault_line _ = None

-- the answer to a command that isn't read
abbrev pub fault_text : TextError → Option (List ℕ)
fault_text error = option_map line_text (fault_line error)
