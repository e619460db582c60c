-- How reasons and states are written. A number is written as `decimal` says, without leading zeros.
use Rattle.std.specs.Prelude.{ℕ, List, [], ◌∷◌, ◌++◌, codes, decimal, flat_map, slice_get, unwrap_or}
use Rattle.kv_syn.specs.declared.outcomes.Need.{Need}
use Rattle.kv_syn.specs.declared.outcomes.Reason.{Reason}
use Rattle.kv_syn.specs.declared.outcomes.State.{State}
use Rattle.kv_syn.specs.declared.outcomes.State.TheVariants.{Ill, Broken, Open, Proved, Waiting, Cyclic, Idle}
use Rattle.kv_table.specs.Reasons.{reason_rows}
use Rattle.kv_table.specs.Rules.{rule_rows}

-- the word at a row of a table, which has that row
abbrev pub word : List (List ℕ) → ℕ → List ℕ
word rows row = unwrap_or (slice_get rows row) []

-- a path: its places with full stops between, or `0` for the root
abbrev pub path_text : List ℕ → List ℕ
path_text [] = codes "0"
path_text (place ∷ places) = decimal place ++ flat_map (λ next. codes "." ++ decimal next) places

-- a reason: its word, then its names, each after a space
abbrev pub reason_text : Reason → List ℕ
reason_text reason = word reason_rows reason.word ++ flat_map (λ name. codes " " ++ name) reason.names

-- a theorem or obligation by its unit and name
abbrev pub need_text : Need → List ℕ
need_text need = need.unit ++ codes "." ++ need.name

-- a state: its word, then what it speaks of
abbrev pub state_text : State → List ℕ
state_text (Ill reason) = codes "ill " ++ reason_text reason
state_text (Broken path rule reason) = codes "broken " ++ path_text path ++ codes " " ++ word rule_rows rule ++ codes " " ++ reason_text reason
state_text (Open goals) = codes "open " ++ decimal goals
state_text Proved = codes "proved"
state_text (Waiting need) = codes "waiting " ++ need_text need
state_text Cyclic = codes "cyclic"
state_text Idle = codes "idle"
