use Rattle.std.proofs.Common.{◌≡◌, sym, subst}
use Rattle.std.specs.Prelude.{true, Ok, Err, IfOk}
use Rattle.std.proofs.lemmas.Result.{err_from_is_err_and}
use Rattle.kv_syn.specs.ProjectBridge.{plain_unit}
use Rattle.kv_syn.specs.Readable.{is_readable_unit}
use Rattle.kv_pexpr.specs.Gives.{kinds}
use Rattle.kv_punit.specs.Errors.{of_lexer, of_reader}
use Rattle.kv_punit.specs.Gives.{Finds}
use Rattle.kv_punit.specs.Readings.{IsLoneHead, NoLimit}
use Rattle.kv_punit.proofs.First.{unit_answers}
use Rattle.kv_punit.proofs.Told.{Tells}
use Rattle.kv_punit.proofs.Lone.{lexer_error, reader_error, found, handed_on, read_of, refused, one_unit}
use Rattle.kv_punit.proofs.readers.unit.Goals as goal

pub returns-in_err-list : goal.returns-in_err-list
returns-in_err-list c =
    let p = err_from_is_err_and c.from_residual.result c.from_residual.ensures.1 in
    let h : Tells IsLoneHead NoLimit plain_unit c.args.text.now c.from_residual.result = handed_on IsLoneHead NoLimit plain_unit c.args.text.now c.from_residual.result (of_lexer c.in_err-list.field-0.0) p.0
    (lexer_error IsLoneHead NoLimit plain_unit c.args.text.now c.in_err-list.field-0.0 c.in_err-list.ensures.read) p.1 p.2 in
    record {
      reads = read_of IsLoneHead NoLimit plain_unit c.args.text.now c.from_residual.result h;
      refuses = refused IsLoneHead NoLimit plain_unit c.args.text.now one_unit c.from_residual.result h;
      faults = unit_answers c.args.text.now c.from_residual.result h;
      readable = subst (λ r. IfOk r (λ u. is_readable_unit u ≡ true)) (sym p.1) tt;
    }

pub returns-in_err-unit : goal.returns-in_err-unit
returns-in_err-unit c =
    let p = err_from_is_err_and c.from_residual-in_err-unit.result c.from_residual-in_err-unit.ensures.1 in
    let none = subst (λ x. Finds plain_unit (IsLoneHead (kinds x)) (Err c.in_err-unit.field-0.0)) c.items.ensures c.in_err-unit.ensures.reads in
    let h : Tells IsLoneHead NoLimit plain_unit c.args.text.now c.from_residual-in_err-unit.result = handed_on IsLoneHead NoLimit plain_unit c.args.text.now c.from_residual-in_err-unit.result (of_reader c.in_err-unit.field-0.0) p.0
    (reader_error IsLoneHead NoLimit plain_unit c.args.text.now c.in_ok-list.list c.in_err-unit.field-0.0 c.in_ok-list.ensures.read none) p.1 p.2 in
    record {
      reads = read_of IsLoneHead NoLimit plain_unit c.args.text.now c.from_residual-in_err-unit.result h;
      refuses = refused IsLoneHead NoLimit plain_unit c.args.text.now one_unit c.from_residual-in_err-unit.result h;
      faults = unit_answers c.args.text.now c.from_residual-in_err-unit.result h;
      readable = subst (λ r. IfOk r (λ u. is_readable_unit u ≡ true)) (sym p.1) tt;
    }

pub returns : goal.returns
returns c =
    let is = subst (λ x. IsLoneHead (kinds x) (plain_unit c.in_ok-unit.unit)) c.items.ensures c.in_ok-unit.ensures.reads in
    let h = found IsLoneHead NoLimit plain_unit c.args.text.now c.in_ok-list.list c.in_ok-unit.unit c.in_ok-list.ensures.read is tt in
    record { reads = h; refuses = λ told. absurd told; faults = unit_answers c.args.text.now (Ok c.in_ok-unit.unit) h; readable = c.in_ok-unit.ensures.readable }
