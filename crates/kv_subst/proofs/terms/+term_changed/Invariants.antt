use Rattle.std.proofs.Common.{◌≡◌, ◌<◌, ◌^◌, take, drop, map}
use Rattle.kv_trees.specs.Bridge.{plain_term, plain_terms}
use Rattle.kv_subst.specs.Changing.{changed_term}
use Rattle.kv_subst.specs.Tops.{terms_top}
use Rattle.kv_subst.specs.Work.{change_of, most_of}
use Rattle.kv_subst.proofs.terms.+term_changed.Given as goal

abbrev pub invariant-terms_changed-loop-term : goal.invariant-terms_changed-loop-term
invariant-terms_changed-loop-term l =
    (terms_top (most_of l.work l.depth) (plain_terms (drop l.term-index l.terms)) < 2 ^ 32)
    × (map plain_term l.changed ≡ map (changed_term (change_of l.work l.depth)) (map plain_term (take l.term-index l.terms)))
