use Rattle.std.proofs.Common.{rules}
use Rattle.kv_script.proofs.Answered.{form_faulty, form_given, term_faulty, term_given}
use Rattle.kv_goal.specs.Goals.{plain_goal}
use Rattle.kv_trees.specs.Bridge.{plain_form, plain_term}
use Rattle.kv_raw.specs.RawBridge.{raw_form, raw_term}
use Rattle.kv_script.proofs.answers.typed_text.Goals as goal

pub returns-in_err-term-in-OfTerm : goal.returns-in_err-term-in-OfTerm
returns-in_err-term-in-OfTerm c =
    let told = term_faulty c.args.env.now.flat.now (plain_goal c.args.goal.now) (raw_term c.in-OfTerm.term) c.in_ok-context-in-OfTerm.context c.in_ok-context-in-OfTerm.ensures c.in_err-term-in-OfTerm.field-0.0 c.in_err-term-in-OfTerm.ensures.value in
    search rules

pub returns-in_err-form-in-OfForm : goal.returns-in_err-form-in-OfForm
returns-in_err-form-in-OfForm c =
    let told = form_faulty c.args.env.now.flat.now (plain_goal c.args.goal.now) (raw_form c.in-OfForm.form) c.in_ok-context-in-OfForm.context c.in_ok-context-in-OfForm.ensures c.in_err-form-in-OfForm.field-0.0 c.in_err-form-in-OfForm.ensures.value in
    search rules

pub returns-in_ok-term-in-OfTerm : goal.returns-in_ok-term-in-OfTerm
returns-in_ok-term-in-OfTerm c =
    let told = term_given c.args.env.now.flat.now (plain_goal c.args.goal.now) (raw_term c.in-OfTerm.term) c.in_ok-context-in-OfTerm.context c.in_ok-context-in-OfTerm.ensures (plain_term c.in_ok-term-in-OfTerm.term) c.in_ok-term-in-OfTerm.field-0-1 c.in_ok-term-in-OfTerm.ensures.value in
    search rules

pub returns-in_ok-form-in-OfForm : goal.returns-in_ok-form-in-OfForm
returns-in_ok-form-in-OfForm c =
    let told = form_given c.args.env.now.flat.now (plain_goal c.args.goal.now) (raw_form c.in-OfForm.form) c.in_ok-context-in-OfForm.context c.in_ok-context-in-OfForm.ensures (plain_form c.in_ok-form-in-OfForm.form) c.in_ok-form-in-OfForm.ensures.value in
    search rules
