-- What typing tells of a goal.
use Rattle.std.proofs.Common.{◌≡◌, Some, Result, Ok, Err, ap, subst, sym, ◌∙◌}
use Rattle.std.specs.Option.{option_map}
use Rattle.kv_elab.specs.Faults.{plain_fault}
use Rattle.kv_elab.specs.Typed.{Typed, Gives}
use Rattle.kv_elab.specs.declared.errors.TypeError.{TypeError}
use Rattle.kv_fresh.specs.Goals.{GoalIs}
use Rattle.kv_fresh.specs.States.{small_goal}
use Rattle.kv_script.proofs.Answered.{fault_is}
use Rattle.kv_script.specs.Reasons.{typing_reason}
use Rattle.kv_trees.specs.Bridge.{plain_form}
use Rattle.kv_trees.specs.Trees as P
use Rattle.kv_syn.specs.declared.outcomes.Reason.{Reason}
use Rattle.kv_trees.specs.declared.trees.Form.{Form}

pub ill_told : (error : TypeError) (reason : Reason) (typed : Typed P.Form) → Gives plain_form (Err error) typed → option_map typing_reason (plain_fault error) ≡ Some reason
    → GoalIs (Err reason) (small_goal typed)
ill_told error reason typed e r =
    let told = fault_is plain_form error typed e reason r in
    ap small_goal told.1 ∙ ap Err told.2

pub goal_told : (result : Result Form Reason) (goal : P.Form) (typed : Typed P.Form) → typed ≡ Ok goal → GoalIs result (small_goal (Ok goal)) → GoalIs result (small_goal typed)
goal_told result goal typed e g = subst (λ t. GoalIs result (small_goal t)) (sym e) g
