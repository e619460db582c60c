use Rattle.std.proofs.Common.{◌≡◌, ◌<◌, ◌+◌, ◌-◌, ◌^◌, min, drop}
use Rattle.kv_trees.specs.Bridge.{plain_terms}
use Rattle.kv_trees.specs.Count.{terms_nodes}
use Rattle.kv_trees.proofs.+term_nodes.Given as goal

abbrev pub invariant-counts::terms_nodes-loop-t : goal.invariant-counts::terms_nodes-loop-t
invariant-counts::terms_nodes-loop-t l = (l.count < 2 ^ 64) × (min (l.count + terms_nodes (plain_terms (drop l.t-index l.ts))) (2 ^ 64 - 1) ≡ min (terms_nodes (plain_terms l.ts)) (2 ^ 64 - 1))
