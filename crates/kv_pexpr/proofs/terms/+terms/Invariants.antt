use Rattle.std.proofs.Common.{◌≡◌, ◌+◌, ◌*◌, ◌-◌, ◌≤◌, length}
use Rattle.std.specs.Prelude.{map}
use Rattle.kv_raw.specs.RawBridge.{raw_term, raw_terms}
use Rattle.kv_raw.specs.RawCount.{raw_terms_depth}
use Rattle.kv_pexpr.specs.Gives.{kinds}
use Rattle.kv_pexpr.specs.Parse as spec
use Rattle.kv_pexpr.proofs.TermTurns.{ahead}
use Rattle.kv_pexpr.proofs.terms.+terms.Given as goal

abbrev pub decreases-arguments : goal.decreases-arguments
decreases-arguments l = 3 * l.height + 2

abbrev pub decreases-term_within : goal.decreases-term_within
decreases-term_within l = 3 * l.height

abbrev pub decreases-terms : goal.decreases-terms
decreases-terms l = 3 * l.height + 1

abbrev pub invariant-terms-loop-turn : goal.invariant-terms-loop-turn
invariant-terms-loop-turn l = record {
  reads : spec.terms (spec.term l.height l.brackets) (length l.tokens) (kinds l.tokens)
      ≡ spec.read_map (ahead (map raw_term l.args)) (spec.terms (spec.term l.height l.brackets) (length l.tokens - l._turn) (kinds l.rest));
  high : raw_terms_depth (raw_terms l.args) ≡ l.most;
  low : l.most ≤ l.height;
}
