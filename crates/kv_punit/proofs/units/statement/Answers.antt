use Rattle.std.proofs.Common.{List, rules}
use Rattle.std.specs.Prelude.{Err}
use Rattle.kv_lex.specs.declared.token.TokenKind.{TokenKind}
use Rattle.kv_syn.specs.ProjectBridge.{plain_theorem}
use Rattle.kv_syn.specs.Projects as P
use Rattle.kv_raw.specs.RawBridge.{raw_form}
use Rattle.kv_pexpr.specs.Gives.{kinds}
use Rattle.kv_pexpr.specs.Grammar.{Stops}
use Rattle.kv_punit.specs.Gives.{seen, IsThat}
use Rattle.kv_punit.specs.Grammar.{IsStatement}
use Rattle.kv_punit.proofs.Theorems.{no_form, only_statement}
use Rattle.kv_punit.proofs.Wholes.{statement_from}
use Rattle.kv_punit.proofs.units.statement.Goals as goal

pub returns-in_err-form-clause-only : goal.returns-in_err-form-clause-only
returns-in_err-form-clause-only c =
    let h : (t : P.Theorem) (us : List TokenKind) → IsStatement (kinds c.args.tokens.now) t us → Stops us → IsThat (seen plain_theorem) (Err c.in_err-form.field-0.0) (t, us) =
    no_form (kinds c.args.tokens.now) (kinds c.in_ok-name.rest.now) c.in_ok-name.name c.in_ok-name.ensures (seen raw_form) (seen plain_theorem) c.in_err-form.field-0.0 c.in_err-form.ensures.only in
    search rules

pub returns-clause-found : goal.returns-clause-found
returns-clause-found c = statement_from (kinds c.args.tokens.now) (kinds c.in_ok-form.rest.now) (kinds c.in_ok-name.rest.now) c.in_ok-name.name (raw_form c.in_ok-form.form) c.in_ok-name.ensures c.in_ok-form.ensures.found

pub returns-clause-only : goal.returns-clause-only
returns-clause-only c =
    only_statement (kinds c.args.tokens.now) (kinds c.in_ok-name.rest.now) c.in_ok-name.name c.in_ok-name.ensures (raw_form c.in_ok-form.form) (kinds c.in_ok-form.rest.now) c.in_ok-form.ensures.only
