use Rattle.std.proofs.Common.{◌≡◌, take, map}
use Rattle.kv_trees.specs.Bridge.{plain_term}
use Rattle.kv_subst.specs.Opening.{raised_term}
use Rattle.kv_prop.specs.Replacing.{replaced_term}
use Rattle.kv_prop.proofs.replacing.+term_replaced.Given as goal

abbrev pub invariant-terms_replaced-loop-term : goal.invariant-terms_replaced-loop-term
invariant-terms_replaced-loop-term l =
    let from = raised_term l.depth (plain_term l.from) in
    let to = raised_term l.depth (plain_term l.to) in
    map plain_term l.replaced ≡ map (replaced_term from to) (map plain_term (take l.term-index l.terms))
