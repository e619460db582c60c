use Rattle.std.proofs.Common.{ℕ, List, sym}
use Rattle.std.specs.Borrow.{Bor}
use Rattle.std.specs.Str.{bytes_eq}
use Rattle.kv_names.specs.Names.{Name}
use Rattle.kv_goal.proofs.Keys.{Names, names_agree}
use Rattle.kv_goal.proofs.Seen.{all_seen, at, ended, left_at, moved, none_more, none_seen, one_more, pushed}
use Rattle.kv_script.proofs.once.labels_once.Goals as goal
use Rattle.kv_script.proofs.once.labels_once.Goals.{then-branch+in_ok-copy+in_ok-push, else-branch}

pub loop-label-init : goal.loop-label-init
loop-label-init c = none_seen (λ (k q : Bor (List ℕ)). bytes_eq k.now q.now) bytes_eq (Names (λ (n : Name). n)) (names_agree (λ (n : Name). n)) c.new-before.result c.new-seen.result c.args.labels.now c.new-before.ensures.empty c.new-seen.ensures

pub loop-label-preserved : goal.loop-label-preserved
loop-label-preserved c =
    let x = c.label-item.result in
    let left = left_at c.args.labels.now c.loop-label.label-index x c.loop-label-test.true c.label-item.is in
    let so_far = at (λ (k q : Bor (List ℕ)). bytes_eq k.now q.now) bytes_eq (Names (λ (n : Name). n)) (names_agree (λ (n : Name). n)) c.loop-label.before c.loop-label.seen _ _ _ left c.loop-label.invariant in
    elim c.if-branch.branch [
      | then-branch+in_ok-copy+in_ok-push w ↦
          let more = one_more (λ (k q : Bor (List ℕ)). bytes_eq k.now q.now) bytes_eq (Names (λ (n : Name). n)) (names_agree (λ (n : Name). n)) _ _ _ _ x so_far c.bytes.result c.bytes.ensures _ c.in_ok-insert.ensures.added c.insert.new.self c.in_ok-insert.ensures.updates w.if-branch.true in
          moved (λ (k q : Bor (List ℕ)). bytes_eq k.now q.now) bytes_eq (Names (λ (n : Name). n)) (names_agree (λ (n : Name). n)) c.insert.new.self _ c.if-branch.seen _ _ (pushed _ _ _ _ _ w.in_ok-push.ensures.ok w.in_ok-copy.ensures w.seen-is) more
      | else-branch w ↦
          let same = none_more (λ (k q : Bor (List ℕ)). bytes_eq k.now q.now) bytes_eq (Names (λ (n : Name). n)) (names_agree (λ (n : Name). n)) _ _ _ _ x so_far c.bytes.result c.bytes.ensures _ c.in_ok-insert.ensures.added c.insert.new.self c.in_ok-insert.ensures.updates w.if-branch.false c.in_ok-insert.ensures.unchanged in
          moved (λ (k q : Bor (List ℕ)). bytes_eq k.now q.now) bytes_eq (Names (λ (n : Name). n)) (names_agree (λ (n : Name). n)) c.insert.new.self _ c.if-branch.seen _ _ (sym w.seen-is) same
    ]

pub returns : goal.returns
returns c = all_seen (λ (k q : Bor (List ℕ)). bytes_eq k.now q.now) bytes_eq (Names (λ (n : Name). n)) (names_agree (λ (n : Name). n)) c.loop-label.before c.loop-label.seen c.args.labels.now (at (λ (k q : Bor (List ℕ)). bytes_eq k.now q.now) bytes_eq (Names (λ (n : Name). n)) (names_agree (λ (n : Name). n)) c.loop-label.before c.loop-label.seen _ _ _ (ended c.args.labels.now c.loop-label.label-index c.loop-label-test.false) c.loop-label.invariant)
