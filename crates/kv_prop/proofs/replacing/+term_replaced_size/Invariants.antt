use Rattle.std.proofs.Common.{◌≡◌, ◌<◌, ◌+◌, ◌-◌, ◌^◌, min, max, drop}
use Rattle.kv_trees.specs.Bridge.{plain_term, plain_terms}
use Rattle.kv_trees.specs.Count.{terms_nodes, terms_depth}
use Rattle.kv_subst.specs.Opening.{raised_term}
use Rattle.kv_prop.specs.Replacing.{replaced_terms}
use Rattle.kv_prop.proofs.replacing.+term_replaced_size.Given as goal

abbrev pub invariant-terms_replaced_size-loop-term : goal.invariant-terms_replaced_size-loop-term
invariant-terms_replaced_size-loop-term l =
    let from = raised_term l.depth (plain_term l.from) in
    let to = raised_term l.depth (plain_term l.to.term.now) in
    (l.size.nodes < 2 ^ 64) × (l.size.depth < 2 ^ 32)
    × (min (l.size.nodes + terms_nodes (replaced_terms from to (plain_terms (drop l.term-index l.terms)))) (2 ^ 64 - 1) ≡ min (terms_nodes (replaced_terms from to (plain_terms l.terms))) (2 ^ 64 - 1))
    × (min (max l.size.depth (terms_depth (replaced_terms from to (plain_terms (drop l.term-index l.terms))))) (2 ^ 32 - 1) ≡ min (terms_depth (replaced_terms from to (plain_terms l.terms))) (2 ^ 32 - 1))
