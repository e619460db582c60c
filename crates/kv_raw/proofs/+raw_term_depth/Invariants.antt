use Rattle.std.proofs.Common.{◌≡◌, ◌<◌, ◌-◌, ◌^◌, min, max, drop}
use Rattle.kv_raw.specs.RawBridge.{raw_terms}
use Rattle.kv_raw.specs.RawCount.{raw_terms_depth}
use Rattle.kv_raw.proofs.+raw_term_depth.Given as goal

abbrev pub invariant-raw_counts::raw_terms_depth-loop-t : goal.invariant-raw_counts::raw_terms_depth-loop-t
invariant-raw_counts::raw_terms_depth-loop-t l = (l.most < 2 ^ 32) × (min (max l.most (raw_terms_depth (raw_terms (drop l.t-index l.ts)))) (2 ^ 32 - 1) ≡ min (raw_terms_depth (raw_terms l.ts)) (2 ^ 32 - 1))
