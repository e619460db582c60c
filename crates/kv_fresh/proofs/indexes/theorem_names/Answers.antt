use Rattle.std.proofs.Common.{map, subst}
use Rattle.kv_fresh.proofs.Turns.{NamesSoFar, ended, names_first, names_last, names_more, turned}
use Rattle.kv_syn.specs.ProjectBridge.{plain_theorem}
use Rattle.kv_fresh.proofs.indexes.theorem_names.Goals as goal

pub loop-theorem-init : goal.loop-theorem-init
loop-theorem-init c = names_first c.new-names.result (map plain_theorem c.args.theorems.now) c.new-names.ensures.empty

pub loop-theorem-preserved : goal.loop-theorem-preserved
loop-theorem-preserved c =
    let x = c.theorem-item.result in
    let turn = turned plain_theorem c.args.theorems.now c.loop-theorem.theorem-index x c.loop-theorem-test.true c.theorem-item.is in
    names_more c.loop-theorem.names c.insert.new.self c.bytes.result (plain_theorem x) c.bytes.ensures c.in_ok-insert.ensures.updates _ _
    (subst (λ rest. NamesSoFar c.loop-theorem.names rest (map plain_theorem c.args.theorems.now)) turn c.loop-theorem.invariant)

pub returns : goal.returns
returns c =
    names_last c.loop-theorem.names (map plain_theorem c.args.theorems.now)
    (subst (λ rest. NamesSoFar c.loop-theorem.names rest (map plain_theorem c.args.theorems.now)) (ended plain_theorem c.args.theorems.now c.loop-theorem.theorem-index c.loop-theorem-test.false) c.loop-theorem.invariant)
