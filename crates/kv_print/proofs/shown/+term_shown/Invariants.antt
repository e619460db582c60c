use Rattle.std.proofs.Common.{◌≡◌, take, map}
use Rattle.kv_trees.specs.Bridge.{plain_term}
use Rattle.kv_raw.specs.RawBridge.{raw_term}
use Rattle.kv_print.specs.Shown.{shown_term}
use Rattle.kv_print.proofs.shown.+term_shown.Given as goal

abbrev pub invariant-terms_shown-loop-term : goal.invariant-terms_shown-loop-term
invariant-terms_shown-loop-term l = map raw_term l.shown ≡ map (shown_term l.around) (map plain_term (take l.term-index l.terms))
