use Rattle.std.proofs.Common.{rules}
use Rattle.std.specs.Prelude.{Err}
use Rattle.kv_table.specs.Commands as words
use Rattle.kv_pexpr.specs.Gives.{kinds}
use Rattle.kv_punit.specs.Commands.{plain_command}
use Rattle.kv_punit.specs.Gives.{Finds}
use Rattle.kv_punit.specs.Grammar.{IsArguments}
use Rattle.kv_punit.proofs.Asked.{more_than_status, status_found}
use Rattle.kv_punit.proofs.commands.status.Goals as goal

pub returns-in_err-end-clause-reads : goal.returns-in_err-end-clause-reads
returns-in_err-end-clause-reads c =
    let h : Finds plain_command (IsArguments words.STATUS (kinds c.args.tokens.now)) (Err c.in_err-end.field-0.0) =
    more_than_status plain_command (kinds c.args.tokens.now) (λ (x : Unit {0}). tt) c.in_err-end.field-0.0 c.in_err-end.ensures in
    search rules

pub returns-clause-reads : goal.returns-clause-reads
returns-clause-reads c = status_found (kinds c.args.tokens.now) c.in_ok-end.ensures
