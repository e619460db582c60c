use Rattle.std.proofs.Common.{ℕ, List, rules}
use Rattle.std.specs.Prelude.{Err}
use Rattle.std.specs.Borrow.{Bor}
use Rattle.kv_lex.specs.declared.token.Token.{Token}
use Rattle.kv_pexpr.specs.Gives.{kinds}
use Rattle.kv_punit.specs.Commands.{plain_command}
use Rattle.kv_punit.specs.Gives.{Finds}
use Rattle.kv_punit.specs.Grammar.{IsCommand}
use Rattle.kv_punit.proofs.Asked.{no_word, by_arguments}
use Rattle.kv_punit.proofs.commands.lone_command.Goals as goal

pub returns-in_err-row-clause-reads : goal.returns-in_err-row-clause-reads
returns-in_err-row-clause-reads c =
    let h : Finds plain_command (IsCommand (kinds c.args.tokens.now)) (Err c.in_err-row.field-0.0) =
    no_word plain_command (kinds c.args.tokens.now) (λ (found : ℕ × Bor (List Token)). (found.0, kinds found.1.now)) c.in_err-row.field-0.0 c.in_err-row.ensures in
    search rules

pub returns-clause-reads : goal.returns-clause-reads
returns-clause-reads c = by_arguments plain_command (kinds c.args.tokens.now) c.in_ok-row.row (kinds c.in_ok-row.rest.now) c.arguments.result c.in_ok-row.ensures c.arguments.ensures.reads
