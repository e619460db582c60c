use Rattle.std.proofs.Common.{◌≡◌, ◌<◌, ◌+◌, ◌-◌, ◌^◌, min, drop, map}
use Rattle.kv_trees.specs.Bridge.{plain_form}
use Rattle.kv_trees.specs.Count.{forms_nodes}
use Rattle.kv_trees.proofs.counts.forms_nodes.Given as goal

abbrev pub invariant-loop-form : goal.invariant-loop-form
invariant-loop-form l = (l.count < 2 ^ 64) × (min (l.count + forms_nodes (map plain_form (drop l.form-index l.forms))) (2 ^ 64 - 1) ≡ min (forms_nodes (map plain_form l.forms)) (2 ^ 64 - 1))
