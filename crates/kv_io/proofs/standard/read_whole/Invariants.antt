-- What was read is in `bytes`.
use Rattle.std.proofs.Common.{length, ◌+◌, ◌-◌}
use Rattle.std.specs.Io.KnownBytes.{Consumes}
use Rattle.kv_io.specs.Limits.{file_limit}
use Rattle.kv_io.proofs.standard.read_whole.Given as goal

abbrev pub invariant-loop-bytes : goal.invariant-loop-bytes
invariant-loop-bytes g l = Consumes (g.F.Read.remaining l.initial.file) (g.F.Read.remaining l.file) l.bytes

abbrev pub decreases-loop-bytes : goal.decreases-loop-bytes
decreases-loop-bytes g l = file_limit + 1 - length l.bytes
