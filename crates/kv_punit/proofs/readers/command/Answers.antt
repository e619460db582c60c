use Rattle.std.proofs.Common.{◌≡◌, ◌∙◌, sym, subst}
use Rattle.std.specs.Prelude.{true, Ok, Err, IfOk}
use Rattle.std.proofs.lemmas.Result.{err_from_is_err_and}
use Rattle.kv_pexpr.specs.Gives.{kinds}
use Rattle.kv_punit.specs.Commands.{plain_command, has_readable_unit, HasShortScript}
use Rattle.kv_punit.specs.Errors.{of_lexer, of_reader}
use Rattle.kv_punit.specs.Gives.{Finds}
use Rattle.kv_punit.specs.Grammar.{IsCommand}
use Rattle.kv_punit.specs.declared.errors.TextError.TheVariants as error
use Rattle.kv_punit.specs.declared.errors.Which.TheVariants.{Steps}
use Rattle.kv_punit.proofs.First.{answers}
use Rattle.kv_punit.proofs.Told.{Tells}
use Rattle.kv_punit.proofs.Lone.{lexer_error, limited, reader_error, handed_on, read_of, refused, one_command}
use Rattle.kv_punit.proofs.readers.command.Goals as goal

pub returns-in_err-list : goal.returns-in_err-list
returns-in_err-list c =
    let p = err_from_is_err_and c.from_residual.result c.from_residual.ensures.1 in
    let h : Tells IsCommand HasShortScript plain_command c.args.text.now c.from_residual.result = handed_on IsCommand HasShortScript plain_command c.args.text.now c.from_residual.result (of_lexer c.in_err-list.field-0.0) p.0
    (lexer_error IsCommand HasShortScript plain_command c.args.text.now c.in_err-list.field-0.0 c.in_err-list.ensures.read) p.1 p.2 in
    record {
      reads = read_of IsCommand HasShortScript plain_command c.args.text.now c.from_residual.result h;
      refuses = refused IsCommand HasShortScript plain_command c.args.text.now one_command c.from_residual.result h;
      faults = answers IsCommand HasShortScript plain_command c.args.text.now one_command c.from_residual.result h;
      readable = subst (λ r. IfOk r (λ x. has_readable_unit x ≡ true)) (sym p.1) tt;
    }

pub returns-in_err-command : goal.returns-in_err-command
returns-in_err-command c =
    let p = err_from_is_err_and c.from_residual-in_err-command.result c.from_residual-in_err-command.ensures.1 in
    let none = subst (λ x. Finds plain_command (IsCommand (kinds x)) (Err c.in_err-command.field-0.0)) c.items.ensures c.in_err-command.ensures.reads in
    let h : Tells IsCommand HasShortScript plain_command c.args.text.now c.from_residual-in_err-command.result = handed_on IsCommand HasShortScript plain_command c.args.text.now c.from_residual-in_err-command.result (of_reader c.in_err-command.field-0.0) p.0
    (reader_error IsCommand HasShortScript plain_command c.args.text.now c.in_ok-list.list c.in_err-command.field-0.0 c.in_ok-list.ensures.read none) p.1 p.2 in
    record {
      reads = read_of IsCommand HasShortScript plain_command c.args.text.now c.from_residual-in_err-command.result h;
      refuses = refused IsCommand HasShortScript plain_command c.args.text.now one_command c.from_residual-in_err-command.result h;
      faults = answers IsCommand HasShortScript plain_command c.args.text.now one_command c.from_residual-in_err-command.result h;
      readable = subst (λ r. IfOk r (λ x. has_readable_unit x ≡ true)) (sym p.1) tt;
    }

pub returns : goal.returns
returns c =
    let is = subst (λ x. IsCommand (kinds x) (plain_command c.in_ok-command.command)) c.items.ensures c.in_ok-command.ensures.reads in
    let h = limited c.args.text.now c.in_ok-list.list c.in_ok-command.command c.short_command.result c.in_ok-list.ensures.read is c.in_ok-command.ensures.readable c.short_command.ensures in
    record {
      reads = read_of IsCommand HasShortScript plain_command c.args.text.now c.short_command.result h.0;
      refuses = refused IsCommand HasShortScript plain_command c.args.text.now one_command c.short_command.result h.0;
      faults = answers IsCommand HasShortScript plain_command c.args.text.now one_command c.short_command.result h.0;
      readable = h.1;
    }
