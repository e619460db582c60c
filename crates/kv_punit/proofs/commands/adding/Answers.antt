use Rattle.std.proofs.Common.{rules}
use Rattle.std.specs.Prelude.{Err}
use Rattle.kv_syn.specs.ProjectBridge.{plain_unit}
use Rattle.kv_table.specs.Commands as words
use Rattle.kv_pexpr.specs.Gives.{kinds}
use Rattle.kv_punit.specs.Commands.{plain_command}
use Rattle.kv_punit.specs.Gives.{Finds}
use Rattle.kv_punit.specs.Grammar as g
use Rattle.kv_punit.specs.Grammar.{IsArguments}
use Rattle.kv_punit.proofs.Asked.{no_add}
use Rattle.kv_punit.proofs.commands.adding.Goals as goal

pub returns-in_err-unit-clause-reads : goal.returns-in_err-unit-clause-reads
returns-in_err-unit-clause-reads c =
    let h : Finds plain_command (IsArguments words.ADD (kinds c.args.tokens.now)) (Err c.in_err-unit.field-0.0) = no_add plain_command (kinds c.args.tokens.now) plain_unit c.in_err-unit.field-0.0 c.in_err-unit.ensures.reads in
    search rules

pub returns-clause-reads : goal.returns-clause-reads
returns-clause-reads c = g.add c.in_ok-unit.ensures.reads
