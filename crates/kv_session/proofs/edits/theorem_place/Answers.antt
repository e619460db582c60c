use Rattle.std.proofs.Common.{Err, ap, sym, ◌∙◌}
use Rattle.kv_session.proofs.Found.{item_at}
use Rattle.kv_session.proofs.Making.{has-plain, made-theorem, made-theorem-there, unknown-theorem}
use Rattle.kv_session.proofs.edits.theorem_place.Goals as goal
use Rattle.kv_session.specs.declared.errors.Refusal.TheVariants.{Exists}

pub returns-in_err-place-clause-gives : goal.returns-in_err-place-clause-gives
returns-in_err-place-clause-gives c = unknown-theorem _ c.args.unit.now c.args.theorem.now c.args.project.now.units c.in_err-place.field-0.0 c.from_residual.result c.in_err-place.ensures.finds c.from_residual.ensures.1

pub returns-then-not-has_theorem-clause-gives : goal.returns-then-not-has_theorem-clause-gives
returns-then-not-has_theorem-clause-gives c =
    let unit = c.index-items-place.result in
    let at = item_at c.args.project.now.units c.items.result.now c.in_ok-place.place unit c.items.ensures c.index-items-place.is c.in_ok-place.ensures.place in
    made-theorem c.args.unit.now c.args.theorem.now c.args.project.now.units c.in_ok-place.place unit c.in_ok-place.ensures.finds at
    (has-plain c.args.theorem.now.name unit ∙ sym c.has_theorem.ensures ∙ c.if-not-has_theorem.true)

pub returns-clause-gives : goal.returns-clause-gives
returns-clause-gives c =
    let unit = c.index-items-place.result in
    let at = item_at c.args.project.now.units c.items.result.now c.in_ok-place.place unit c.items.ensures c.index-items-place.is c.in_ok-place.ensures.place in
    made-theorem-there c.args.unit.now c.args.theorem.now c.args.project.now.units c.in_ok-place.place unit c.in_ok-place.ensures.finds at
    (has-plain c.args.theorem.now.name unit ∙ sym c.has_theorem.ensures ∙ c.if-not-has_theorem.false)
    ∙ ap (λ label. Err (Exists label)) (sym c.in_ok-label.ensures)
