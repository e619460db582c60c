use Rattle.std.proofs.Common.{refl}
use Rattle.kv_session.proofs.Changed.{readable-set, taken_back, theorem_back}
use Rattle.kv_session.proofs.places.pop_theorem.Goals as goal
use Rattle.kv_session.specs.Places.{more_theorems}

pub returns-clause-undoes : goal.returns-clause-undoes
returns-clause-undoes c = λ before theorem is.
    taken_back (more_theorems theorem) c.args.units.now before c.args.place c.item_mut.result.now _ c.item_mut.ensures.value
    (λ unit same. theorem_back c.pop.result c.item_mut.result.now unit theorem c.pop.new.self c.pop.ensures same) is

pub returns-clause-readable : goal.returns-clause-readable
returns-clause-readable c = readable-set c.args.units.now c.args.place c.item_mut.result.now _ c.item_mut.ensures.value refl
