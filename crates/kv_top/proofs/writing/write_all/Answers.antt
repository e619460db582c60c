use Rattle.std.proofs.Common.{rules, arith, length, ◌+◌, ◌≤◌}
use Rattle.std.proofs.Math.Seq.{take-add}
use Rattle.std.proofs.lemmas.List.{take_rest, length-drop}
use Rattle.kv_top.proofs.Writes.{adds-more, adds-front}
use Rattle.kv_top.proofs.writing.write_all.Goals as goal

pub returns-in_err-count-clause-err : goal.returns-in_err-count-clause-err
returns-in_err-count-clause-err g c =
    let failed = rw (take_rest c.args.bytes.now c.loop-at.at) at c.in_err-count.ensures.failed in
    let told = adds-front c.args.bytes.now c.loop-at.at c.loop-at.invariant.0 c.loop-at.invariant.1 failed in
    search (rules, told)

pub loop-at-preserved : goal.loop-at-preserved
loop-at-preserved g c =
    let bytes = c.args.bytes.now in
    let at = c.loop-at.at in
    let count = c.in_ok-count.count in
    let rest = take_rest bytes at in
    let more = rw rest at c.in_ok-count.ensures.taken in
    let bound = rw rest at c.in_ok-count.ensures.within in
    let within : at + count ≤ length bytes = omega (arith, length-drop at bytes) in
    (within, rw (take-add at count bytes) (adds-more c.loop-at.invariant.1 more), omega arith)
