use Rattle.std.proofs.Common.{map, subst, refl, ◌∙◌, sym}
use Rattle.std.specs.List.{All}
use Rattle.std.proofs.lemmas.List.{take_all}
use Rattle.kv_syn.specs.ProjectBridge.{plain_unit}
use Rattle.kv_punit.specs.Limits.{AreDifferent, HasDifferentNames, unit_names}
use Rattle.kv_punit.proofs.Differing.{at_place, each_at, each_more}
use Rattle.kv_punit.proofs.names.is_wellformed.Goals as goal

pub returns-then-not-branch-2 : goal.returns-then-not-branch-2
returns-then-not-branch-2 c = (
  λ h. absurd (cc),
  λ w.
      let all = subst (λ x. All HasDifferentNames (map plain_unit x)) (sym c.items-units.ensures) w.each in
      let at = at_place c.items-units.result.now c.loop-unit.unit-index c.unit-item.result c.loop-unit-test.true c.unit-item.is in
      let has = each_at HasDifferentNames c.items-units.result.now c.loop-unit.unit-index c.unit-item.result at all in
      sym c.if-not-branch-2.true ∙ c.in_ok-has_different_names.ensures.1 has,
)

pub loop-unit-preserved : goal.loop-unit-preserved
loop-unit-preserved c =
    let at = at_place c.items-units.result.now c.loop-unit.unit-index c.unit-item.result c.loop-unit-test.true c.unit-item.is in
    each_more HasDifferentNames c.items-units.result.now c.loop-unit.unit-index c.unit-item.result at c.loop-unit.invariant (c.in_ok-has_different_names.ensures.0 c.if-not-branch-2.false)

pub returns : goal.returns
returns c = (
  λ h. record {
    units = subst (λ x. AreDifferent (unit_names (map plain_unit x))) c.items-units.ensures (c.in_ok-units_differ.ensures.0 c.if-not-branch.false);
    each = subst (λ x. All HasDifferentNames (map plain_unit x)) (take_all c.loop-unit.unit-index c.items-units.result.now c.loop-unit-test.false ∙ c.items-units.ensures) c.loop-unit.invariant;
  },
  λ w. refl,
)
