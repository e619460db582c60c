use Rattle.std.proofs.Common.{ap, ap₂, ◌∙◌, ◌++◌, map}
use Rattle.kv_goal.proofs.Free.{gathered, where_ok, procedures_of_both}
use Rattle.kv_goal.specs.ByName.{procedures_each}
use Rattle.kv_goal.specs.Goals.{plain_goal, plain_known}
use Rattle.kv_goal.specs.Once.{procedures_once}
use Rattle.kv_goal.proofs.goals.Goal.procedures.Goals as goal

pub returns : goal.returns
returns c =
    let whole = gathered c.new-all.result c.push_procedures.new.all c.push_procedures-2.new.all c.items-3.result.now (procedures_each (map plain_known c.items.result.now)) (procedures_each (map plain_known c.items-2.result.now)) c.new-all.ensures c.in_ok-push_procedures.ensures c.in_ok-push_procedures-2.ensures c.items-3.ensures in
    let both = whole ∙ ap₂ (λ l r. procedures_each (map plain_known l) ++ procedures_each (map plain_known r)) c.items.ensures c.items-2.ensures in
    where_ok c.procedures_once.result c.procedures_once.ensures (λ x is. is ∙ ap procedures_once both ∙ procedures_of_both (plain_goal c.args.self.now))
