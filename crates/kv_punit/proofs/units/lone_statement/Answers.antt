use Rattle.std.proofs.Common.{rules}
use Rattle.std.specs.Prelude.{[], Err}
use Rattle.kv_syn.specs.ProjectBridge.{plain_theorem}
use Rattle.kv_pexpr.specs.Gives.{kinds}
use Rattle.kv_punit.specs.Gives.{seen, Finds}
use Rattle.kv_punit.specs.Grammar.{IsStatement}
use Rattle.kv_punit.proofs.Alone.{no_statement, longer_statement, statement_alone}
use Rattle.kv_punit.proofs.units.lone_statement.Goals as goal

pub returns-in_err-theorem : goal.returns-in_err-theorem
returns-in_err-theorem c =
    let h : Finds plain_theorem (λ t. IsStatement (kinds c.args.tokens.now) t []) (Err c.in_err-theorem.field-0.0) = no_statement (seen plain_theorem) plain_theorem (kinds c.args.tokens.now) c.in_err-theorem.field-0.0 c.in_err-theorem.ensures.only in
    search rules

pub returns-in_err-end : goal.returns-in_err-end
returns-in_err-end c =
    let h : Finds plain_theorem (λ t. IsStatement (kinds c.args.tokens.now) t []) (Err c.in_err-end.field-0.0) =
    longer_statement (seen plain_theorem) plain_theorem (kinds c.args.tokens.now) (λ (x : Unit {0}). tt) (plain_theorem c.in_ok-theorem.theorem) (kinds c.in_ok-theorem.rest.now) c.in_err-end.field-0.0
    c.in_ok-theorem.ensures.only c.in_err-end.ensures in
    search rules

pub returns : goal.returns
returns c = statement_alone (kinds c.args.tokens.now) (kinds c.in_ok-theorem.rest.now) (plain_theorem c.in_ok-theorem.theorem) c.in_ok-theorem.ensures.found c.in_ok-end.ensures
