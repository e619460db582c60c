-- A law of replays.
use Rattle.std.specs.Prelude.{◌≡◌}
use Rattle.kv_script.specs.Events.{outcome_of, replay_events}
use Rattle.kv_sig.specs.Members.{Every}
use Rattle.kv_sig.specs.Views.{View, AnswersAlike}
use Rattle.kv_syn.specs.Scripts.{Script}
use Rattle.kv_trees.specs.Trees.{Form}

-- where two views answer alike each look that the outcome of a replay over the first lists, the replay is the same: what is met,
-- told, asked and counted
abbrev pub SameReplays : Type 0
SameReplays = (v w : View) (goal : Form) (script : Script) → Every (AnswersAlike v w) (outcome_of (replay_events v goal script)).looks
    → replay_events v goal script ≡ replay_events w goal script
