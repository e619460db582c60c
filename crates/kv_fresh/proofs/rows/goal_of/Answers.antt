use Rattle.std.proofs.Common.{Err, subst}
use Rattle.kv_elab.specs.Elab.{elab_form}
use Rattle.kv_elab.specs.Typed.{Gives}
use Rattle.kv_elab.specs.declared.contexts.Context.{Context}
use Rattle.kv_fresh.specs.States.{nothing_around}
use Rattle.kv_fresh.proofs.Goals.{ill_told}
use Rattle.kv_trees.specs.Bridge.{plain_form}
use Rattle.kv_raw.specs.RawBridge.{raw_form}
use Rattle.kv_fresh.proofs.rows.goal_of.Goals as goal

pub returns-clause-goal : goal.returns-clause-goal
returns-clause-goal c =
    ill_told c.in-Err.error c.in_ok-typing_reason-in-Err.field-0 (elab_form c.args.flat.now.sig nothing_around (raw_form c.args.theorem.now.form))
    (subst (λ (around : Context). Gives plain_form (Err c.in-Err.error) (elab_form c.args.flat.now.sig around (raw_form c.args.theorem.now.form))) c.nothing_around-context.ensures c.in-Err.ensures.value)
    c.in_ok-typing_reason-in-Err.ensures.reason
