use Rattle.std.proofs.Common.{Some, ap, refl, sym, ◌∙◌}
use Rattle.kv_session.proofs.Changed.{other_back, other_set, readable-set}
use Rattle.kv_session.proofs.places.swap_proof.Goals as goal
use Rattle.kv_session.specs.Places.{changed_at, other_proof}

pub returns-clause-swaps : goal.returns-clause-swaps
returns-clause-swaps c =
    other_set c.args.units.now c.args.place c.args.at c.item_mut-unit.result.now c.swap.new.x c.item_mut-unit.ensures.value
    ∙ ap (λ proof. changed_at c.args.place (other_proof c.args.at proof) c.args.units.now) c.swap.ensures.x_after

pub returns-clause-back : goal.returns-clause-back
returns-clause-back c =
    sym (ap (changed_at c.args.place (other_proof c.args.at c.swap.new.y)) (other_set c.args.units.now c.args.place c.args.at c.item_mut-unit.result.now c.swap.new.x c.item_mut-unit.ensures.value)
    ∙ other_back c.args.units.now c.args.place c.args.at c.item_mut-unit.result.now c.swap.new.y c.swap.new.x c.item_mut-unit.ensures.value (c.item_mut.ensures.value ∙ ap Some (sym c.swap.ensures.y_after)))

pub returns-clause-readable : goal.returns-clause-readable
returns-clause-readable c = readable-set c.args.units.now c.args.place c.item_mut-unit.result.now _ c.item_mut-unit.ensures.value refl
