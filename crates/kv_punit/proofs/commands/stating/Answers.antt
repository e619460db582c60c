use Rattle.std.proofs.Common.{List, rules}
use Rattle.std.specs.Prelude.{Err}
use Rattle.std.specs.Borrow.{Bor}
use Rattle.kv_lex.specs.declared.token.Token.{Token}
use Rattle.kv_syn.specs.ProjectBridge.{plain_theorem}
use Rattle.kv_names.specs.Names.{Name}
use Rattle.kv_table.specs.Commands as words
use Rattle.kv_pexpr.specs.Gives.{kinds}
use Rattle.kv_punit.specs.Commands.{plain_command}
use Rattle.kv_punit.specs.Gives.{Finds}
use Rattle.kv_punit.specs.Grammar.{IsArguments}
use Rattle.kv_punit.proofs.Asked.{nameless_theorem, no_theorem, theorem_found}
use Rattle.kv_punit.proofs.commands.stating.Goals as goal

pub returns-in_err-unit-clause-reads : goal.returns-in_err-unit-clause-reads
returns-in_err-unit-clause-reads c =
    let h : Finds plain_command (IsArguments words.THEOREM (kinds c.args.tokens.now)) (Err c.in_err-unit.field-0.0) =
    nameless_theorem plain_command (kinds c.args.tokens.now) (λ (found : Name × Bor (List Token)). (found.0, kinds found.1.now)) c.in_err-unit.field-0.0 c.in_err-unit.ensures in
    search rules

pub returns-in_err-theorem-clause-reads : goal.returns-in_err-theorem-clause-reads
returns-in_err-theorem-clause-reads c =
    let h : Finds plain_command (IsArguments words.THEOREM (kinds c.args.tokens.now)) (Err c.in_err-theorem.field-0.0) =
    no_theorem plain_command (kinds c.args.tokens.now) plain_theorem c.in_err-theorem.field-0.0 c.in_ok-unit.unit (kinds c.in_ok-unit.rest.now) c.in_ok-unit.ensures c.in_err-theorem.ensures in
    search rules

pub returns-clause-reads : goal.returns-clause-reads
returns-clause-reads c = theorem_found (kinds c.args.tokens.now) (kinds c.in_ok-unit.rest.now) c.in_ok-unit.unit (plain_theorem c.in_ok-theorem.theorem) c.in_ok-unit.ensures c.in_ok-theorem.ensures
