use Rattle.std.proofs.Common.{arith, sym, ◌∙◌}
use Rattle.kv_io.proofs.Places.{scanned-next, command-here, last-here}
use Rattle.kv_io.proofs.scan.find_command.Goals as goal

pub returns-then-is_full_stop_line : goal.returns-then-is_full_stop_line
returns-then-is_full_stop_line c =
    let l = c.loop-feed.invariant in
    command-here c.args.bytes.now c.loop-feed.start c.loop-feed.from c.in-Some.feed l.order l.scanned c.in-Some.ensures.some
    (sym c.is_full_stop_line.ensures ∙ c.if-is_full_stop_line.true)

pub loop-feed-preserved : goal.loop-feed-preserved
loop-feed-preserved c =
    let l = c.loop-feed.invariant in
    record {
      order = omega arith;
      within = omega (arith, c.in-Some.ensures.some.within);
      scanned = scanned-next c.args.bytes.now c.loop-feed.start c.loop-feed.from c.in-Some.feed l.order l.scanned c.in-Some.ensures.some
          (sym c.is_full_stop_line.ensures ∙ c.if-is_full_stop_line.false);
    }

pub returns : goal.returns
returns c =
    let l = c.loop-feed.invariant in
    last-here c.args.bytes.now c.loop-feed.start c.loop-feed.from l.order l.scanned c.in_default.ensures.none
