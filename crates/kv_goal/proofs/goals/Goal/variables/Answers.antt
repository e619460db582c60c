use Rattle.std.proofs.Common.{ap, ap₂, ◌∙◌, ◌++◌, map}
use Rattle.kv_goal.proofs.Free.{gathered, where_ok, variables_of_both}
use Rattle.kv_goal.specs.ByName.{variables_each}
use Rattle.kv_goal.specs.Goals.{plain_goal, plain_known}
use Rattle.kv_goal.specs.Once.{variables_once}
use Rattle.kv_goal.proofs.goals.Goal.variables.Goals as goal

pub returns : goal.returns
returns c =
    let whole = gathered c.new-all.result c.push_variables.new.all c.push_variables-2.new.all c.items-3.result.now (variables_each (map plain_known c.items.result.now)) (variables_each (map plain_known c.items-2.result.now)) c.new-all.ensures c.in_ok-push_variables.ensures c.in_ok-push_variables-2.ensures c.items-3.ensures in
    let both = whole ∙ ap₂ (λ l r. variables_each (map plain_known l) ++ variables_each (map plain_known r)) c.items.ensures c.items-2.ensures in
    where_ok c.variables_once.result c.variables_once.ensures (λ x is. is ∙ ap variables_once both ∙ variables_of_both (plain_goal c.args.self.now))
