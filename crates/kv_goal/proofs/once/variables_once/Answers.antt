use Rattle.std.proofs.Common.{ℕ, List, sym}
use Rattle.std.specs.Borrow.{Bor}
use Rattle.std.specs.Str.{bytes_eq}
use Rattle.kv_names.specs.declared.symbols.Var.{Var}
use Rattle.kv_goal.proofs.Keys.{Names, names_agree}
use Rattle.kv_goal.proofs.Seen.{all_seen, at, ended, left_at, moved, none_more, none_seen, one_more, pushed}
use Rattle.kv_goal.proofs.once.variables_once.Goals as goal
use Rattle.kv_goal.proofs.once.variables_once.Goals.{then-branch+in_ok-copy+in_ok-push, else-branch}

pub loop-variable-init : goal.loop-variable-init
loop-variable-init c = none_seen (λ (k q : Bor (List ℕ)). bytes_eq k.now q.now) (λ (x y : Var). bytes_eq x.name y.name) (Names (λ (x : Var). x.name)) (names_agree (λ (x : Var). x.name)) c.new-names.result c.new-free.result c.args.all.now c.new-names.ensures.empty c.new-free.ensures

pub loop-variable-preserved : goal.loop-variable-preserved
loop-variable-preserved c =
    let x = c.variable-item.result in
    let left = left_at c.args.all.now c.loop-variable.variable-index x c.loop-variable-test.true c.variable-item.is in
    let so_far = at (λ (k q : Bor (List ℕ)). bytes_eq k.now q.now) (λ (x y : Var). bytes_eq x.name y.name) (Names (λ (x : Var). x.name)) (names_agree (λ (x : Var). x.name)) c.loop-variable.names c.loop-variable.free _ _ _ left c.loop-variable.invariant in
    elim c.if-branch.branch [
      | then-branch+in_ok-copy+in_ok-push w ↦
          let more = one_more (λ (k q : Bor (List ℕ)). bytes_eq k.now q.now) (λ (x y : Var). bytes_eq x.name y.name) (Names (λ (x : Var). x.name)) (names_agree (λ (x : Var). x.name)) _ _ _ _ x so_far c.bytes.result c.bytes.ensures _ c.in_ok-insert.ensures.added c.insert.new.self c.in_ok-insert.ensures.updates w.if-branch.true in
          moved (λ (k q : Bor (List ℕ)). bytes_eq k.now q.now) (λ (x y : Var). bytes_eq x.name y.name) (Names (λ (x : Var). x.name)) (names_agree (λ (x : Var). x.name)) c.insert.new.self _ c.if-branch.free _ _ (pushed _ _ _ _ _ w.in_ok-push.ensures.ok w.in_ok-copy.ensures w.free-is) more
      | else-branch w ↦
          let same = none_more (λ (k q : Bor (List ℕ)). bytes_eq k.now q.now) (λ (x y : Var). bytes_eq x.name y.name) (Names (λ (x : Var). x.name)) (names_agree (λ (x : Var). x.name)) _ _ _ _ x so_far c.bytes.result c.bytes.ensures _ c.in_ok-insert.ensures.added c.insert.new.self c.in_ok-insert.ensures.updates w.if-branch.false c.in_ok-insert.ensures.unchanged in
          moved (λ (k q : Bor (List ℕ)). bytes_eq k.now q.now) (λ (x y : Var). bytes_eq x.name y.name) (Names (λ (x : Var). x.name)) (names_agree (λ (x : Var). x.name)) c.insert.new.self _ c.if-branch.free _ _ (sym w.free-is) same
    ]

pub returns : goal.returns
returns c =
    all_seen (λ (k q : Bor (List ℕ)). bytes_eq k.now q.now) (λ (x y : Var). bytes_eq x.name y.name) (Names (λ (x : Var). x.name)) (names_agree (λ (x : Var). x.name)) c.loop-variable.names c.loop-variable.free c.args.all.now (at (λ (k q : Bor (List ℕ)). bytes_eq k.now q.now) (λ (x y : Var). bytes_eq x.name y.name) (Names (λ (x : Var). x.name)) (names_agree (λ (x : Var). x.name)) c.loop-variable.names c.loop-variable.free _ _ _ (ended c.args.all.now c.loop-variable.variable-index c.loop-variable-test.false) c.loop-variable.invariant)
