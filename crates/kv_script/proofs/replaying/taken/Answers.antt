use Rattle.std.proofs.Common.{◌+◌, ◌∷◌, drop, ap, sym, ◌∙◌}
use Rattle.std.specs.Prelude.{slice_set}
use Rattle.kv_script.proofs.Taken.{first_out, same_length}
use Rattle.kv_script.proofs.replaying.taken.Goals as goal

pub returns-clause-first : goal.returns-clause-first
returns-clause-first c =
    first_out c.args.premises.now c.args.place c.item_mut.result.now c.swap.new.x c.item_mut.ensures.value
    ∙ ap (λ s. s ∷ drop (c.args.place + 1) (slice_set c.args.premises.now c.args.place c.swap.new.x)) (sym c.swap.ensures.y_after)

pub returns-clause-length : goal.returns-clause-length
returns-clause-length c = same_length c.args.premises.now c.args.place c.swap.new.x
