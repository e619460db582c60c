-- What is met in a script in preorder, and what a replay tells of it.
use Rattle.std.specs.Prelude.{ℕ, ◌+◌, ◌-◌, ◌^◌, min, Bool, ◌&&◌, ◌==◌, List, [], ◌∷◌, ◌++◌, Option, Some, None, is_none, Ok, Err}
use Rattle.kv_script.specs.Answers.{Answer, answer, text_looks}
use Rattle.kv_script.specs.Once.{names_once, looks_once}
use Rattle.kv_sig.specs.Views.{View}
use Rattle.kv_syn.specs.Scripts.{Script, Scripts, Step, StepText}
use Rattle.kv_names.specs.Names.{Name}
use Rattle.kv_trees.specs.Trees.{Form, Sequent}
use Rattle.kv_syn.specs.declared.outcomes.Fault.{Fault}
use Rattle.kv_syn.specs.declared.outcomes.Look.{Look}
use Rattle.kv_syn.specs.declared.outcomes.Outcome.{Outcome}

-- a sequent that is left open, or a step that is visited, with its answer
pub data Event : Type 0 where
  open_goal : (path : List ℕ) → (s : Sequent) → Event
  visit : (path : List ℕ) → (s : Sequent) → (step : Step) → (a : Answer) → Event

-- the path of child i of a path: children are counted from 1 there, up to the greatest number of 32 bits
abbrev pub child_path : List ℕ → ℕ → List ℕ
child_path path i = path ++ min (i + 1) (2 ^ 32 - 1) ∷ []

-- premises without a child, from child i on
abbrev pub all_open : List ℕ → ℕ → List Sequent → List Event
all_open path i [] = []
all_open path i (p ∷ ps) = Event.open_goal (child_path path i) p ∷ all_open path (i + 1) ps

-- nothing below a refused step is visited
abbrev pub on_premises : Answer → (List Sequent → List Event) → List Event
on_premises (Ok ps) below = below ps
on_premises (Err reason) below = []

abbrev mutual
  -- of a script at a sequent
  pub events : View → Sequent → List ℕ → Script → List Event
  events v s path Script.Hole = Event.open_goal path s ∷ []
  events v s path (Script.Node step children) =
      Event.visit path s step (answer v s step children) ∷ on_premises (answer v s step children) (λ ps. events_below v path 0 ps children)

  -- of the children of a step at its premises, from child i on
  pub events_below : View → List ℕ → ℕ → List Sequent → Scripts → List Event
  events_below v path i ps Scripts.none = all_open path i ps
  events_below v path i [] (Scripts.more k rest) = []
  events_below v path i (p ∷ ps) (Scripts.more k rest) = events v p (child_path path i) k ++ events_below v path (i + 1) ps rest

-- the goal alone on the right
abbrev pub goal_sequent : Form → Sequent
goal_sequent goal = record { left = []; right = goal ∷ [] }

-- of a script at a goal
abbrev pub replay_events : View → Form → Script → List Event
replay_events v goal script = events v (goal_sequent goal) [] script

-- the number of open goals
abbrev pub goal_count : List Event → ℕ
goal_count [] = 0
goal_count (Event.open_goal path s ∷ es) = goal_count es + 1
goal_count (Event.visit path s step a ∷ es) = goal_count es

-- the first refused step
abbrev pub first_fault : List Event → Option Fault
first_fault [] = None
first_fault (Event.open_goal path s ∷ es) = first_fault es
first_fault (Event.visit path s step (Ok ps) ∷ es) = first_fault es
first_fault (Event.visit path s step (Err reason) ∷ es) = Some (record { path = path; rule = step.rule; reason = reason })

-- the label that a step uses, where its text is one
abbrev pub uses_of : StepText → List Name
uses_of (StepText.OfLabel l) = l ∷ []
uses_of _ = []

-- the labels that the steps use that weren't refused
abbrev pub used_labels : List Event → List Name
used_labels [] = []
used_labels (Event.open_goal path s ∷ es) = used_labels es
used_labels (Event.visit path s step (Ok ps) ∷ es) = uses_of step.text ++ used_labels es
used_labels (Event.visit path s step (Err reason) ∷ es) = used_labels es

-- what the visited steps ask
abbrev pub asked_looks : List Event → List Look
asked_looks [] = []
asked_looks (Event.open_goal path s ∷ es) = asked_looks es
asked_looks (Event.visit path s step a ∷ es) = text_looks step.text ++ asked_looks es

-- the number of visited steps
abbrev pub visits : List Event → ℕ
visits [] = 0
visits (Event.open_goal path s ∷ es) = visits es
visits (Event.visit path s step a ∷ es) = visits es + 1

-- no goal is open and no step is refused
abbrev pub is_closed : List Event → Bool
is_closed es = goal_count es == 0 && is_none (first_fault es)

-- what a replay that met these events tells
abbrev pub outcome_of : List Event → Outcome
outcome_of es = record {
  closed = is_closed es;
  goals = min (goal_count es) (2 ^ 64 - 1);
  broken = first_fault es;
  uses = names_once (used_labels es);
  looks = looks_once (asked_looks es);
}
