use Rattle.std.proofs.Common.{◌+◌, ◌≤◌, arith, length, sym, subst}
use Rattle.std.proofs.Math.Seq.{take-add}
use Rattle.std.proofs.lemmas.List.{length-drop, take_rest}
use Rattle.std.proofs.KnownBytes.{Appends-trans}
use Rattle.std.specs.Io.KnownBytes.{Appends}
use Rattle.kv_io.proofs.standard.write_whole.Goals as goal

pub loop-at-preserved : goal.loop-at-preserved
loop-at-preserved g c =
    let bytes = c.args.bytes.now in
    let at = c.loop-at.at in
    let count = c.in-Ok.count in
    let rest = take_rest bytes at in
    let more = rw rest at c.in-Ok.ensures.bytes in
    let bound = rw rest at c.in-Ok.ensures.bound in
    let within : at + count ≤ length bytes = omega (arith, length-drop at bytes) in
    (within, subst (Appends _ _) (sym (take-add at count bytes)) (Appends-trans _ _ _ _ _ c.loop-at.invariant.1 more))
