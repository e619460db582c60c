use Rattle.std.proofs.Common.{◌<◌, ◌≤◌, map, length, Err, sym, ap, ◌∙◌, arith}
use Rattle.std.proofs.lemmas.List.{length-map}
use Rattle.kv_script.proofs.Answered.{answer_premises, answer_refused, answer_surplus, fault_is, refusal_is, step_faulty, step_given, step_refused}
use Rattle.kv_sig.specs.Steps.{plain_typed_text}
use Rattle.kv_sig.specs.Views.{view_of}
use Rattle.kv_goal.specs.Goals.{plain_goal}
use Rattle.kv_syn.specs.ScriptBridge.{plain_step}
use Rattle.kv_script.proofs.answers.answer.Goals as goal

pub returns-in-Err-clause-answer : goal.returns-in-Err-clause-answer
returns-in-Err-clause-answer c =
    let v = view_of c.args.env.now.flat.now in
    let s = plain_goal c.args.goal.now in
    let step = plain_step c.args.step.now in
    let told = fault_is plain_typed_text c.in-Err.fault _ c.in-Err.ensures c.in_ok-typing_reason-in-Err.field-0 c.in_ok-typing_reason-in-Err.ensures.reason in
    ap Err (sym told.2) ∙ sym (answer_refused v s step c.args.children.now _ (step_faulty v s step told.0 told.1))

pub returns-in_ok-reason_of-in-Err-premises-clause-answer : goal.returns-in_ok-reason_of-in-Err-premises-clause-answer
returns-in_ok-reason_of-in-Err-premises-clause-answer c =
    let v = view_of c.args.env.now.flat.now in
    let s = plain_goal c.args.goal.now in
    let step = plain_step c.args.step.now in
    let refused = refusal_is (map plain_goal) c.in-Err-premises.error _ c.in-Err-premises.ensures c.in_ok-reason_of-in-Err-premises.field-0 c.in_ok-reason_of-in-Err-premises.ensures.reason in
    ap Err (sym refused.2)
    ∙ sym (answer_refused v s step c.args.children.now _ (step_refused v s step (plain_typed_text c.in-Ok.text) c.in-Ok.ensures refused.0 refused.1))

pub returns-then-items-children-clause-answer : goal.returns-then-items-children-clause-answer
returns-then-items-children-clause-answer c =
    let v = view_of c.args.env.now.flat.now in
    let s = plain_goal c.args.goal.now in
    let step = plain_step c.args.step.now in
    let premises = c.in-Ok-premises.premises in
    let fewer : length (map plain_goal premises) < length c.args.children.now = omega (arith, length-map premises plain_goal, ap length c.items.ensures) in
    let given = step_given v s step (plain_typed_text c.in-Ok.text) c.in-Ok.ensures (map plain_goal premises) c.in-Ok-premises.ensures in
    ap Err c.bare.ensures ∙ sym (answer_surplus v s step c.args.children.now (map plain_goal premises) given fewer)

pub returns-else-items-children-clause-answer : goal.returns-else-items-children-clause-answer
returns-else-items-children-clause-answer c =
    let v = view_of c.args.env.now.flat.now in
    let s = plain_goal c.args.goal.now in
    let step = plain_step c.args.step.now in
    let premises = c.in-Ok-premises.premises in
    let enough : length c.args.children.now ≤ length (map plain_goal premises) = omega (arith, length-map premises plain_goal, ap length c.items.ensures) in
    let given = step_given v s step (plain_typed_text c.in-Ok.text) c.in-Ok.ensures (map plain_goal premises) c.in-Ok-premises.ensures in
    sym (answer_premises v s step c.args.children.now (map plain_goal premises) given enough)
