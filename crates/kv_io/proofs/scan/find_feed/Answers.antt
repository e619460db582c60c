use Rattle.std.proofs.Common.{get_or, drop, length, take, ◌-◌}
use Rattle.kv_io.proofs.Places.{free-more, test-false}
use Rattle.kv_io.proofs.scan.find_feed.Goals as goal

pub loop-index-preserved : goal.loop-index-preserved
loop-index-preserved c =
    let rest = take (length c.args.bytes.now - c.args.from) (drop c.args.from c.args.bytes.now) in
    free-more rest c.loop-index.index c.loop-index-test.true c.loop-index.invariant (test-false (get_or rest c.loop-index.index 0) 10 c.if-byte-eq10.false)
