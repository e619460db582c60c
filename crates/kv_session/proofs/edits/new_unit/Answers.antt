use Rattle.std.proofs.Common.{Err, ap, sym, ◌∙◌}
use Rattle.std.specs.Prelude.{position}
use Rattle.kv_session.proofs.Found.{was_none, was_some}
use Rattle.kv_session.proofs.Making.{made-add, made-add-there}
use Rattle.kv_session.proofs.edits.new_unit.Goals as goal
use Rattle.kv_session.specs.Places.{is_unit_named}
use Rattle.kv_session.specs.declared.errors.Refusal.TheVariants.{Exists}

pub returns-then-is_none : goal.returns-then-is_none
returns-then-is_none c =
    let named = is_unit_named c.args.unit.now.name in
    made-add c.args.unit.now c.args.project.now.units (ap (position named) (sym c.items.ensures) ∙ sym c.unit_place.ensures ∙ was_none c.unit_place.result c.if-is_none.ensures)

pub returns : goal.returns
returns c =
    let named = is_unit_named c.args.unit.now.name in
    let (place, found) = was_some c.unit_place.result c.if-is_none.ensures in
    made-add-there c.args.unit.now c.args.project.now.units place (ap (position named) (sym c.items.ensures) ∙ sym c.unit_place.ensures ∙ found)
    ∙ ap (λ label. Err (Exists label)) (sym (c.in_ok-label.ensures ∙ c.bytes.ensures))
