use Rattle.std.proofs.Common.{◌≡◌, drop, take, length, Ok}
use Rattle.kv_sig.specs.Signatures.{merged_from, merged}
use Rattle.kv_sig.proofs.sigs.Sig.add_all.Given as goal

abbrev pub invariant-loop-symbol : goal.invariant-loop-symbol
invariant-loop-symbol l = record {
  starts : take (length l.initial.self) l.self ≡ l.initial.self;
  value : merged_from (Ok l.self) (drop l.symbol-index l.symbols) ≡ merged l.initial.self l.symbols;
}
