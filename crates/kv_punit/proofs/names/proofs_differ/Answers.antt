use Rattle.std.proofs.Common.{rules, arith, ◌∙◌, ap, subst, map}
use Rattle.std.specs.Prelude.{IfOk}
use Rattle.std.specs.Bool.{Decides}
use Rattle.std.proofs.lemmas.List.{take_all}
use Rattle.kv_syn.specs.Projects as P
use Rattle.kv_syn.specs.ProjectBridge.{plain_proof}
use Rattle.kv_punit.specs.Limits.{AreDifferent}
use Rattle.kv_punit.proofs.names.proofs_differ.Goals as goal

pub returns : goal.returns
returns c = subst (λ l. IfOk c.are_different.result (λ differ. Decides differ (AreDifferent l)))
    (c.loop-proof.invariant ∙ ap (λ l. map (λ (x : P.Proof). x.name) (map plain_proof l)) (take_all c.loop-proof.proof-index c.args.proofs.now (omega arith)))
    (search rules)
