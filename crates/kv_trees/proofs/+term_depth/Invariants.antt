use Rattle.std.proofs.Common.{◌≡◌, ◌<◌, ◌-◌, ◌^◌, min, max, drop}
use Rattle.kv_trees.specs.Bridge.{plain_terms}
use Rattle.kv_trees.specs.Count.{terms_depth}
use Rattle.kv_trees.proofs.+term_depth.Given as goal

abbrev pub invariant-counts::terms_depth-loop-t : goal.invariant-counts::terms_depth-loop-t
invariant-counts::terms_depth-loop-t l = (l.most < 2 ^ 32) × (min (max l.most (terms_depth (plain_terms (drop l.t-index l.ts)))) (2 ^ 32 - 1) ≡ min (terms_depth (plain_terms l.ts)) (2 ^ 32 - 1))
