-- No line feed stands before `index`.
use Rattle.std.proofs.Common.{take}
use Rattle.kv_io.specs.Reading.{IsFree}
use Rattle.kv_io.proofs.scan.find_feed.Given as goal

abbrev pub invariant-loop-index : goal.invariant-loop-index
invariant-loop-index l = IsFree (take l.index l.rest)
