use Rattle.std.proofs.Common.{◌≡◌, ◌<◌, ◌-◌, ◌^◌, min, max, drop, map}
use Rattle.kv_trees.specs.Bridge.{plain_form}
use Rattle.kv_trees.specs.Count.{forms_depth}
use Rattle.kv_trees.proofs.counts.forms_depth.Given as goal

abbrev pub invariant-loop-form : goal.invariant-loop-form
invariant-loop-form l = (l.most < 2 ^ 32) × (min (max l.most (forms_depth (map plain_form (drop l.form-index l.forms)))) (2 ^ 32 - 1) ≡ min (forms_depth (map plain_form l.forms)) (2 ^ 32 - 1))
