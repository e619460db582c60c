use Rattle.std.proofs.Common.{◌≡◌, ◌<◌, ◌+◌, ◌-◌, ◌^◌, min, drop}
use Rattle.kv_raw.specs.RawBridge.{raw_terms}
use Rattle.kv_raw.specs.RawCount.{raw_terms_nodes}
use Rattle.kv_raw.proofs.+raw_term_nodes.Given as goal

abbrev pub invariant-raw_counts::raw_terms_nodes-loop-t : goal.invariant-raw_counts::raw_terms_nodes-loop-t
invariant-raw_counts::raw_terms_nodes-loop-t l = (l.count < 2 ^ 64) × (min (l.count + raw_terms_nodes (raw_terms (drop l.t-index l.ts))) (2 ^ 64 - 1) ≡ min (raw_terms_nodes (raw_terms l.ts)) (2 ^ 64 - 1))
