use Rattle.std.proofs.Common.{length, sym, subst, ◌<◌}
use Rattle.std.specs.Prelude.{List, IsSomeAnd, slice_get}
use Rattle.kv_session.proofs.Changed.{still_there}
use Rattle.kv_session.proofs.edits.replace_proof.Goals as goal
use Rattle.kv_syn.specs.declared.units.Unit.{Unit as UnitTree}

pub swap_proof-requires-then-is_err : goal.swap_proof-requires-then-is_err
swap_proof-requires-then-is_err g c =
    subst (λ (us : List UnitTree). IsSomeAnd (slice_get us c.args.place) (λ (unit : UnitTree). c.args.at < length unit.proofs)) (sym c.swap_proof.ensures.swaps)
    (still_there c.args.project.now.units c.args.place c.args.at c.args.proof c.requires)
