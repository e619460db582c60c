use Rattle.std.proofs.Common.{◌≡◌, take}
use Rattle.kv_flat.specs.Items.{sorts_of}
use Rattle.kv_flat.proofs.items.sorts_of.Given as goal

abbrev pub invariant-loop-parameter : goal.invariant-loop-parameter
invariant-loop-parameter l = l.sorts ≡ sorts_of (take l.parameter-index l.parameters)
