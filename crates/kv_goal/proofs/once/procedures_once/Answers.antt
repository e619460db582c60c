use Rattle.std.proofs.Common.{ℕ, List, sym}
use Rattle.std.specs.Borrow.{Bor}
use Rattle.std.specs.Str.{bytes_eq}
use Rattle.kv_names.specs.Names.{Name}
use Rattle.kv_names.specs.declared.symbols.Profile.{Profile}
use Rattle.kv_goal.proofs.Keys.{Names, names_agree}
use Rattle.kv_goal.proofs.Seen.{all_seen, at, ended, left_at, moved, none_more, none_seen, one_more, pushed}
use Rattle.kv_goal.proofs.once.procedures_once.Goals as goal
use Rattle.kv_goal.proofs.once.procedures_once.Goals.{then-branch+in_ok-copy+in_ok-push, else-branch}

pub loop-procedure-init : goal.loop-procedure-init
loop-procedure-init c = none_seen (λ (k q : Bor (List ℕ)). bytes_eq k.now q.now) (λ (x y : Name × Profile). bytes_eq x.0 y.0) (Names (λ (x : Name × Profile). x.0)) (names_agree (λ (x : Name × Profile). x.0)) c.new-names.result c.new-assumed.result c.args.all.now c.new-names.ensures.empty c.new-assumed.ensures

pub loop-procedure-preserved : goal.loop-procedure-preserved
loop-procedure-preserved c =
    let x = c.procedure-item.result in
    let left = left_at c.args.all.now c.loop-procedure.procedure-index x c.loop-procedure-test.true c.procedure-item.is in
    let so_far = at (λ (k q : Bor (List ℕ)). bytes_eq k.now q.now) (λ (x y : Name × Profile). bytes_eq x.0 y.0) (Names (λ (x : Name × Profile). x.0)) (names_agree (λ (x : Name × Profile). x.0)) c.loop-procedure.names c.loop-procedure.assumed _ _ _ left c.loop-procedure.invariant in
    elim c.if-branch.branch [
      | then-branch+in_ok-copy+in_ok-push w ↦
          let more = one_more (λ (k q : Bor (List ℕ)). bytes_eq k.now q.now) (λ (x y : Name × Profile). bytes_eq x.0 y.0) (Names (λ (x : Name × Profile). x.0)) (names_agree (λ (x : Name × Profile). x.0)) _ _ _ _ x so_far c.bytes.result c.bytes.ensures _ c.in_ok-insert.ensures.added c.insert.new.self c.in_ok-insert.ensures.updates w.if-branch.true in
          moved (λ (k q : Bor (List ℕ)). bytes_eq k.now q.now) (λ (x y : Name × Profile). bytes_eq x.0 y.0) (Names (λ (x : Name × Profile). x.0)) (names_agree (λ (x : Name × Profile). x.0)) c.insert.new.self _ c.if-branch.assumed _ _ (pushed _ _ _ _ _ w.in_ok-push.ensures.ok w.in_ok-copy.ensures w.assumed-is) more
      | else-branch w ↦
          let same = none_more (λ (k q : Bor (List ℕ)). bytes_eq k.now q.now) (λ (x y : Name × Profile). bytes_eq x.0 y.0) (Names (λ (x : Name × Profile). x.0)) (names_agree (λ (x : Name × Profile). x.0)) _ _ _ _ x so_far c.bytes.result c.bytes.ensures _ c.in_ok-insert.ensures.added c.insert.new.self c.in_ok-insert.ensures.updates w.if-branch.false c.in_ok-insert.ensures.unchanged in
          moved (λ (k q : Bor (List ℕ)). bytes_eq k.now q.now) (λ (x y : Name × Profile). bytes_eq x.0 y.0) (Names (λ (x : Name × Profile). x.0)) (names_agree (λ (x : Name × Profile). x.0)) c.insert.new.self _ c.if-branch.assumed _ _ (sym w.assumed-is) same
    ]

pub returns : goal.returns
returns c =
    all_seen (λ (k q : Bor (List ℕ)). bytes_eq k.now q.now) (λ (x y : Name × Profile). bytes_eq x.0 y.0) (Names (λ (x : Name × Profile). x.0)) (names_agree (λ (x : Name × Profile). x.0)) c.loop-procedure.names c.loop-procedure.assumed c.args.all.now (at (λ (k q : Bor (List ℕ)). bytes_eq k.now q.now) (λ (x y : Name × Profile). bytes_eq x.0 y.0) (Names (λ (x : Name × Profile). x.0)) (names_agree (λ (x : Name × Profile). x.0)) c.loop-procedure.names c.loop-procedure.assumed _ _ _ (ended c.args.all.now c.loop-procedure.procedure-index c.loop-procedure-test.false) c.loop-procedure.invariant)
