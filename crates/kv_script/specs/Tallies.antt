-- Events that are told to a tally.
use Rattle.std.specs.Prelude.{◌+◌, ◌-◌, ◌^◌, min, List, ◌++◌, map, Option, Some, None, Ok, Err, Result, ◌≡◌, ◌==◌, ◌&&◌, is_none}
use Rattle.kv_goal.specs.Goals.{plain_goal}
use Rattle.kv_goal.specs.declared.goals.Goal.{Goal}
use Rattle.kv_script.specs.Answers.{Answer}
use Rattle.kv_script.specs.Events.{Event, goal_count, first_fault, used_labels, asked_looks}
use Rattle.kv_script.specs.Once.{names_once, looks_once}
use Rattle.kv_script.specs.declared.tally.Tally.{Tally}
use Rattle.kv_syn.specs.declared.outcomes.Fault.{Fault}
use Rattle.kv_syn.specs.declared.outcomes.Outcome.{Outcome}
use Rattle.kv_syn.specs.declared.outcomes.Reason.{Reason}

-- the answer of the code as plain data
abbrev pub plain_answer : Result (List Goal) Reason → Answer
plain_answer (Ok ps) = Ok (map plain_goal ps)
plain_answer (Err reason) = Err reason

-- the first one, where there is one
abbrev pub or_first : Option Fault → Option Fault → Option Fault
or_first None fault = fault
or_first (Some first) fault = Some first

-- the tally tells of these events after what it told before; labels and looks as often as they come
pub record Told (before now : Tally) (es : List Event) : Type 0 where
  pub goals : now.goals ≡ min (before.goals + goal_count es) (2 ^ 64 - 1)
  pub broken : now.broken ≡ or_first before.broken (first_fault es)
  pub uses : now.uses ≡ before.uses ++ used_labels es
  pub looks : now.looks ≡ before.looks ++ asked_looks es

-- what a tally tells at the end
abbrev pub tally_outcome : Tally → Outcome
tally_outcome t = record {
  closed = t.goals == 0 && is_none t.broken;
  goals = t.goals;
  broken = t.broken;
  uses = names_once t.uses;
  looks = looks_once t.looks;
}
