use Rattle.std.proofs.Common.{◌≡◌, ◌<◌, ◌+◌, ◌-◌, ◌^◌, min, max, drop}
use Rattle.kv_trees.specs.Bridge.{plain_term, plain_terms}
use Rattle.kv_trees.specs.Count.{terms_nodes, terms_depth}
use Rattle.kv_subst.specs.Changing.{changed_terms}
use Rattle.kv_subst.specs.Opening.{opened}
use Rattle.kv_prop.proofs.opening.+term_opened_size.Given as goal

abbrev pub invariant-terms_opened_size-loop-term : goal.invariant-terms_opened_size-loop-term
invariant-terms_opened_size-loop-term l =
    let put = opened (plain_term l.at.term.now) l.depth in
    (l.size.nodes < 2 ^ 64) × (l.size.depth < 2 ^ 32)
    × (min (l.size.nodes + terms_nodes (changed_terms put (plain_terms (drop l.term-index l.terms)))) (2 ^ 64 - 1) ≡ min (terms_nodes (changed_terms put (plain_terms l.terms))) (2 ^ 64 - 1))
    × (min (max l.size.depth (terms_depth (changed_terms put (plain_terms (drop l.term-index l.terms))))) (2 ^ 32 - 1) ≡ min (terms_depth (changed_terms put (plain_terms l.terms))) (2 ^ 32 - 1))
