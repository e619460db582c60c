use Rattle.std.proofs.Common.{◌≡◌, take, map}
use Rattle.kv_trees.specs.Bridge.{plain_term}
use Rattle.kv_subst.specs.Changing.{changed_term}
use Rattle.kv_subst.specs.Opening.{renamed}
use Rattle.kv_subst.proofs.renaming.+term_renamed.Given as goal

abbrev pub invariant-terms_renamed-loop-term : goal.invariant-terms_renamed-loop-term
invariant-terms_renamed-loop-term l =
    map plain_term l.renamed ≡ map (changed_term (renamed l.from l.to 0)) (map plain_term (take l.term-index l.terms))
