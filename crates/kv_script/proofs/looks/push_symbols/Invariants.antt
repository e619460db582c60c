use Rattle.std.proofs.Common.{◌≡◌, ◌++◌, drop, map}
use Rattle.kv_syn.specs.declared.outcomes.Look.TheVariants.{Symbol}
use Rattle.kv_script.proofs.looks.push_symbols.Given as goal

abbrev pub invariant-loop-name : goal.invariant-loop-name
invariant-loop-name l = l.looks ++ map Symbol (drop l.name-index l.names) ≡ l.initial.looks ++ map Symbol l.names
