use Rattle.std.proofs.Common.{◌≡◌, ◌<◌, ◌+◌, ◌-◌, ◌^◌, min, max, drop}
use Rattle.kv_trees.specs.Bridge.{plain_terms}
use Rattle.kv_trees.specs.Count.{terms_nodes, terms_depth}
use Rattle.kv_goal.proofs.sizes.+term_size.Given as goal

abbrev pub invariant-terms_size-loop-term : goal.invariant-terms_size-loop-term
invariant-terms_size-loop-term l =
    (l.size.nodes < 2 ^ 64) × (l.size.depth < 2 ^ 32)
    × (min (l.size.nodes + terms_nodes (plain_terms (drop l.term-index l.terms))) (2 ^ 64 - 1) ≡ min (terms_nodes (plain_terms l.terms)) (2 ^ 64 - 1))
    × (min (max l.size.depth (terms_depth (plain_terms (drop l.term-index l.terms)))) (2 ^ 32 - 1) ≡ min (terms_depth (plain_terms l.terms)) (2 ^ 32 - 1))
