use Rattle.std.proofs.Common.{◌≡◌, ◌-◌, length}
use Rattle.kv_pexpr.specs.Gives.{kinds}
use Rattle.kv_punit.specs.Parse as spec
use Rattle.kv_punit.proofs.labels.label_text.Given as goal

abbrev pub invariant-loop-turn : goal.invariant-loop-turn
invariant-loop-turn l = spec.label (kinds l.tokens) ≡ spec.parts (length l.tokens - l._turn) l.text (kinds l.rest)
