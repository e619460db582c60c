use Rattle.std.proofs.Common.{◌≡◌, ◌<◌, ◌+◌, ◌-◌, ◌^◌, min, max, drop, map}
use Rattle.kv_trees.specs.Count.{forms_nodes, forms_depth}
use Rattle.kv_goal.specs.Goals.{plain_known}
use Rattle.kv_prop.proofs.drafts.known_size.Given as goal

abbrev pub invariant-loop-form : goal.invariant-loop-form
invariant-loop-form l =
    (l.size.nodes < 2 ^ 64) × (l.size.depth < 2 ^ 32)
    × (min (l.size.nodes + forms_nodes (map plain_known (drop l.form-index l.forms))) (2 ^ 64 - 1) ≡ min (forms_nodes (map plain_known l.forms)) (2 ^ 64 - 1))
    × (min (max l.size.depth (forms_depth (map plain_known (drop l.form-index l.forms)))) (2 ^ 32 - 1) ≡ min (forms_depth (map plain_known l.forms)) (2 ^ 32 - 1))
