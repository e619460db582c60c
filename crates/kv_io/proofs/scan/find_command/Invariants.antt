-- No end line stands before `start`, and no line feed between `start` and `from`.
use Rattle.std.proofs.Common.{◌≤◌, ◌-◌, length}
use Rattle.kv_io.specs.Reading.{IsScanned}
use Rattle.kv_io.proofs.scan.find_command.Given as goal

abbrev pub invariant-loop-feed : goal.invariant-loop-feed
invariant-loop-feed l = record {
  order : l.start ≤ l.from;
  within : l.from ≤ length l.bytes;
  scanned : IsScanned l.bytes l.start (l.from - l.start);
}

abbrev pub decreases-loop-feed : goal.decreases-loop-feed
decreases-loop-feed l = length l.bytes - l.from
