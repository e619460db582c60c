use Rattle.std.proofs.Common.{sym}
use Rattle.kv_script.specs.Once.{look_eq}
use Rattle.kv_script.proofs.Keys.{Asks, asked_eq, asks_agree}
use Rattle.kv_goal.proofs.Seen.{all_seen, at, ended, left_at, moved, none_more, none_seen, one_more, pushed}
use Rattle.kv_script.proofs.once.looks_once.Goals as goal
use Rattle.kv_script.proofs.once.looks_once.Goals.{then-branch+in_ok-look_copy+in_ok-push, else-branch}

pub loop-look-init : goal.loop-look-init
loop-look-init c = none_seen asked_eq look_eq Asks asks_agree c.new-before.result c.new-seen.result c.args.looks.now c.new-before.ensures.empty c.new-seen.ensures

pub loop-look-preserved : goal.loop-look-preserved
loop-look-preserved c =
    let x = c.look-item.result in
    let left = left_at c.args.looks.now c.loop-look.look-index x c.loop-look-test.true c.look-item.is in
    let so_far = at asked_eq look_eq Asks asks_agree c.loop-look.before c.loop-look.seen _ _ _ left c.loop-look.invariant in
    elim c.if-branch.branch [
      | then-branch+in_ok-look_copy+in_ok-push w ↦
          let more = one_more asked_eq look_eq Asks asks_agree _ _ _ _ x so_far c.key_of.result c.key_of.ensures _ c.in_ok-insert.ensures.added c.insert.new.self c.in_ok-insert.ensures.updates w.if-branch.true in
          moved asked_eq look_eq Asks asks_agree c.insert.new.self _ c.if-branch.seen _ _ (pushed _ _ _ _ _ w.in_ok-push.ensures.ok w.in_ok-look_copy.ensures w.seen-is) more
      | else-branch w ↦
          let same = none_more asked_eq look_eq Asks asks_agree _ _ _ _ x so_far c.key_of.result c.key_of.ensures _ c.in_ok-insert.ensures.added c.insert.new.self c.in_ok-insert.ensures.updates w.if-branch.false c.in_ok-insert.ensures.unchanged in
          moved asked_eq look_eq Asks asks_agree c.insert.new.self _ c.if-branch.seen _ _ (sym w.seen-is) same
    ]

pub returns : goal.returns
returns c = all_seen asked_eq look_eq Asks asks_agree c.loop-look.before c.loop-look.seen c.args.looks.now (at asked_eq look_eq Asks asks_agree c.loop-look.before c.loop-look.seen _ _ _ (ended c.args.looks.now c.loop-look.look-index c.loop-look-test.false) c.loop-look.invariant)
