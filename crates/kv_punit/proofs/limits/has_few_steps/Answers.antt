use Rattle.std.proofs.Common.{rules, tests, sym, ◌∙◌}
use Rattle.std.proofs.lemmas.Iterator.{YieldsList-from_slice}
use Rattle.std.proofs.lemmas.Iterator.Search.{all_from_yields_List}
use Rattle.std.proofs.lemmas.List.Folds.{list_all-map}
use Rattle.kv_syn.specs.ProjectBridge.{plain_unit}
use Rattle.kv_syn.specs.declared.units.Unit.{Unit as UnitTree}
use Rattle.kv_punit.specs.Tests as test
use Rattle.kv_punit.proofs.limits.has_few_steps.Goals as goal

pub returns : goal.returns
returns c =
    let all = all_from_yields_List (λ (unit : UnitTree). test.is_short (plain_unit unit)) _ _ c.all.result c.all.ensures.ran (YieldsList-from_slice c.args.project.now.units cc) (λ x b q k. search (rules, tests)) in
    all ∙ sym (list_all-map test.is_short plain_unit c.args.project.now.units)
