use Rattle.std.proofs.Common.{drop}
use Rattle.kv_script.specs.Once.{look_eq}
use Rattle.kv_script.proofs.Keys.{Asks, asked_eq, asks_agree}
use Rattle.kv_goal.proofs.Seen.{SoFar}
use Rattle.kv_script.proofs.once.looks_once.Given as goal

abbrev pub invariant-loop-look : goal.invariant-loop-look
invariant-loop-look l = SoFar asked_eq look_eq Asks asks_agree l.before l.seen (drop l.look-index l.looks) l.looks
