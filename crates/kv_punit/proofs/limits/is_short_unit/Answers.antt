use Rattle.std.proofs.Common.{rules, tests, sym, ◌∙◌}
use Rattle.std.specs.Prelude.{nat_le}
use Rattle.std.proofs.lemmas.Iterator.{YieldsList-from_slice}
use Rattle.std.proofs.lemmas.Iterator.Search.{all_from_yields_List}
use Rattle.std.proofs.lemmas.List.Folds.{list_all-map}
use Rattle.kv_syn.specs.ProjectBridge.{plain_proof}
use Rattle.kv_syn.specs.Projects as P
use Rattle.kv_syn.specs.declared.units.Proof.{Proof}
use Rattle.kv_punit.specs.Limits.{script_steps}
use Rattle.kv_punit.proofs.limits.is_short_unit.Goals as goal

pub returns : goal.returns
returns c =
    let all = all_from_yields_List (λ (proof : Proof). nat_le (script_steps (plain_proof proof).script) 50000) _ _ c.all.result c.all.ensures.ran (YieldsList-from_slice c.args.unit.now.proofs cc) (λ x b q k. search (rules, tests)) in
    all ∙ sym (list_all-map (λ (proof : P.Proof). nat_le (script_steps proof.script) 50000) plain_proof c.args.unit.now.proofs)
