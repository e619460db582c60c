use Rattle.std.proofs.Common.{rules, arith, ◌∙◌, ap, subst, map}
use Rattle.std.specs.Prelude.{IfOk}
use Rattle.std.specs.Bool.{Decides}
use Rattle.std.proofs.lemmas.List.{take_all}
use Rattle.kv_syn.specs.Projects as P
use Rattle.kv_syn.specs.ProjectBridge.{plain_unit}
use Rattle.kv_punit.specs.Limits.{AreDifferent}
use Rattle.kv_punit.proofs.names.units_differ.Goals as goal

pub returns : goal.returns
returns c = subst (λ l. IfOk c.are_different.result (λ differ. Decides differ (AreDifferent l)))
    (c.loop-unit.invariant ∙ ap (λ l. map (λ (x : P.Unit). x.name) (map plain_unit l)) (take_all c.loop-unit.unit-index c.args.units.now (omega arith)))
    (search rules)
