use Rattle.std.proofs.Common.{◌≡◌, ◌+◌, ◌<◌, ◌^◌, take, drop, map}
use Rattle.kv_trees.specs.Bridge.{plain_term, plain_terms}
use Rattle.kv_subst.specs.Opening.{raised_term}
use Rattle.kv_subst.specs.Sizes.{terms_reach}
use Rattle.kv_subst.proofs.places.+term_raised.Given as goal

abbrev pub invariant-terms_raised-loop-term : goal.invariant-terms_raised-loop-term
invariant-terms_raised-loop-term l =
    (terms_reach (plain_terms (drop l.term-index l.terms)) + l.by < 2 ^ 32)
    × (map plain_term l.raised ≡ map (raised_term l.by) (map plain_term (take l.term-index l.terms)))
