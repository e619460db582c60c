use Rattle.std.proofs.Common.{rules, arith, ◌∙◌, ap, subst, map}
use Rattle.std.specs.Prelude.{IfOk}
use Rattle.std.specs.Bool.{Decides}
use Rattle.std.proofs.lemmas.List.{take_all}
use Rattle.kv_syn.specs.Projects as P
use Rattle.kv_syn.specs.ProjectBridge.{plain_theorem}
use Rattle.kv_punit.specs.Limits.{AreDifferent}
use Rattle.kv_punit.proofs.names.theorems_differ.Goals as goal

pub returns : goal.returns
returns c = subst (λ l. IfOk c.are_different.result (λ differ. Decides differ (AreDifferent l)))
    (c.loop-theorem.invariant ∙ ap (λ l. map (λ (x : P.Theorem). x.name) (map plain_theorem l)) (take_all c.loop-theorem.theorem-index c.args.theorems.now (omega arith)))
    (search rules)
