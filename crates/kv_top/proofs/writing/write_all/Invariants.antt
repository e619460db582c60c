use Rattle.std.proofs.Common.{length, take, ◌-◌, ◌≤◌}
use Rattle.kv_io.specs.Outside.{Adds}
use Rattle.kv_top.proofs.writing.write_all.Given as goal

abbrev pub invariant-loop-at : goal.invariant-loop-at
invariant-loop-at g l = (l.at ≤ length l.bytes) × Adds (g.O.Sink.wrote l.initial.output) (take l.at l.bytes) (g.O.Sink.wrote l.output) × (g.O.Sink.faults l.initial.output ≤ g.O.Sink.faults l.output)

abbrev pub decreases-loop-at : goal.decreases-loop-at
decreases-loop-at g l = length l.bytes - l.at
