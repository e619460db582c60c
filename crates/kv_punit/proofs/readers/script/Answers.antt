use Rattle.std.proofs.Common.{◌≡◌, ◌∙◌, sym, subst}
use Rattle.std.specs.Prelude.{Ok, Err}
use Rattle.std.proofs.lemmas.Result.{err_from_is_err_and}
use Rattle.kv_syn.specs.ScriptBridge.{plain_script}
use Rattle.kv_pexpr.specs.Gives.{kinds}
use Rattle.kv_punit.specs.Errors.{of_lexer, of_reader}
use Rattle.kv_punit.specs.Gives.{Finds}
use Rattle.kv_punit.specs.Limits.{script_steps}
use Rattle.kv_punit.specs.Readings.{IsLoneScript, IsShort}
use Rattle.kv_punit.specs.declared.errors.TextError.TheVariants as error
use Rattle.kv_punit.specs.declared.errors.Which.TheVariants.{Steps}
use Rattle.kv_punit.proofs.Checks.{le_from, le_not}
use Rattle.kv_punit.proofs.First.{answers}
use Rattle.kv_punit.proofs.Told.{Tells}
use Rattle.kv_punit.proofs.Lone.{lexer_error, reader_error, too_many, found, handed_on, read_of, refused, one_script}
use Rattle.kv_punit.proofs.readers.script.Goals as goal

pub returns-in_err-list : goal.returns-in_err-list
returns-in_err-list c =
    let p = err_from_is_err_and c.from_residual.result c.from_residual.ensures.1 in
    let h : Tells IsLoneScript IsShort plain_script c.args.text.now c.from_residual.result = handed_on IsLoneScript IsShort plain_script c.args.text.now c.from_residual.result (of_lexer c.in_err-list.field-0.0) p.0
    (lexer_error IsLoneScript IsShort plain_script c.args.text.now c.in_err-list.field-0.0 c.in_err-list.ensures.read) p.1 p.2 in
    record { reads = read_of IsLoneScript IsShort plain_script c.args.text.now c.from_residual.result h; refuses = refused IsLoneScript IsShort plain_script c.args.text.now one_script c.from_residual.result h; faults = answers IsLoneScript IsShort plain_script c.args.text.now one_script c.from_residual.result h }

pub returns-in_err-script : goal.returns-in_err-script
returns-in_err-script c =
    let p = err_from_is_err_and c.from_residual-in_err-script.result c.from_residual-in_err-script.ensures.1 in
    let none = subst (λ x. Finds plain_script (IsLoneScript (kinds x)) (Err c.in_err-script.field-0.0)) c.items.ensures c.in_err-script.ensures in
    let h : Tells IsLoneScript IsShort plain_script c.args.text.now c.from_residual-in_err-script.result = handed_on IsLoneScript IsShort plain_script c.args.text.now c.from_residual-in_err-script.result (of_reader c.in_err-script.field-0.0) p.0
    (reader_error IsLoneScript IsShort plain_script c.args.text.now c.in_ok-list.list c.in_err-script.field-0.0 c.in_ok-list.ensures.read none) p.1 p.2 in
    record { reads = read_of IsLoneScript IsShort plain_script c.args.text.now c.from_residual-in_err-script.result h; refuses = refused IsLoneScript IsShort plain_script c.args.text.now one_script c.from_residual-in_err-script.result h; faults = answers IsLoneScript IsShort plain_script c.args.text.now one_script c.from_residual-in_err-script.result h }

pub returns-then-not-is_short : goal.returns-then-not-is_short
returns-then-not-is_short c =
    let is = subst (λ x. IsLoneScript (kinds x) (plain_script c.in_ok-script.script)) c.items.ensures c.in_ok-script.ensures in
    let many = le_not (script_steps (plain_script c.in_ok-script.script)) 50000 (sym c.is_short.ensures ∙ c.if-not-is_short.true) in
    let h : Tells IsLoneScript IsShort plain_script c.args.text.now (Err (error.Limit Steps)) = too_many IsLoneScript IsShort plain_script c.args.text.now c.in_ok-list.list c.in_ok-script.script c.in_ok-list.ensures.read is many in
    record { reads = tt; refuses = refused IsLoneScript IsShort plain_script c.args.text.now one_script (Err (error.Limit Steps)) h; faults = answers IsLoneScript IsShort plain_script c.args.text.now one_script (Err (error.Limit Steps)) h }

pub returns : goal.returns
returns c =
    let is = subst (λ x. IsLoneScript (kinds x) (plain_script c.in_ok-script.script)) c.items.ensures c.in_ok-script.ensures in
    let few = le_from (script_steps (plain_script c.in_ok-script.script)) 50000 (sym c.is_short.ensures ∙ c.if-not-is_short.false) in
    let h = found IsLoneScript IsShort plain_script c.args.text.now c.in_ok-list.list c.in_ok-script.script c.in_ok-list.ensures.read is few in
    record { reads = h; refuses = λ told. absurd told; faults = answers IsLoneScript IsShort plain_script c.args.text.now one_script (Ok c.in_ok-script.script) h }
