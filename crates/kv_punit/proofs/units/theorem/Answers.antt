use Rattle.std.proofs.Common.{List, rules}
use Rattle.std.specs.Prelude.{Err}
use Rattle.std.specs.Borrow.{Bor}
use Rattle.kv_lex.specs.declared.token.Token.{Token}
use Rattle.kv_lex.specs.declared.token.TokenKind.{TokenKind}
use Rattle.kv_syn.specs.ProjectBridge.{plain_theorem}
use Rattle.kv_syn.specs.Projects as P
use Rattle.kv_pexpr.specs.Gives.{kinds}
use Rattle.kv_punit.specs.Gives.{seen, IsThat}
use Rattle.kv_punit.specs.Grammar.{IsTheorem}
use Rattle.kv_punit.proofs.Theorems.{no_word, no_statement, no_semicolon, only_theorem, theorem_found}
use Rattle.kv_punit.proofs.units.theorem.Goals as goal

pub returns-in_err-rest-clause-only : goal.returns-in_err-rest-clause-only
returns-in_err-rest-clause-only c =
    let h : (t : P.Theorem) (us : List TokenKind) → IsTheorem (kinds c.args.tokens.now) t us → IsThat (seen plain_theorem) (Err c.in_err-rest.field-0.0) (t, us) =
    no_word (seen plain_theorem) (kinds c.args.tokens.now) (λ (rest : Bor (List Token)). kinds rest.now) c.in_err-rest.field-0.0 c.in_err-rest.ensures in
    search rules

pub returns-in_err-theorem-clause-only : goal.returns-in_err-theorem-clause-only
returns-in_err-theorem-clause-only c =
    let h : (t : P.Theorem) (us : List TokenKind) → IsTheorem (kinds c.args.tokens.now) t us → IsThat (seen plain_theorem) (Err c.in_err-theorem.field-0.0) (t, us) =
    no_statement (seen plain_theorem) (kinds c.args.tokens.now) (kinds c.in_ok-rest.rest.now) c.in_ok-rest.ensures (seen plain_theorem) c.in_err-theorem.field-0.0 c.in_err-theorem.ensures.only in
    search rules

pub returns-in_err-rest-2-clause-only : goal.returns-in_err-rest-2-clause-only
returns-in_err-rest-2-clause-only c =
    let h : (t : P.Theorem) (us : List TokenKind) → IsTheorem (kinds c.args.tokens.now) t us → IsThat (seen plain_theorem) (Err c.in_err-rest-2.field-0.0) (t, us) =
    no_semicolon (seen plain_theorem) (kinds c.args.tokens.now) (kinds c.in_ok-rest.rest.now) c.in_ok-rest.ensures (plain_theorem c.in_ok-theorem.theorem) (kinds c.in_ok-theorem.rest.now)
    c.in_ok-theorem.ensures.only (λ (rest : Bor (List Token)). kinds rest.now) c.in_err-rest-2.field-0.0 c.in_err-rest-2.ensures in
    search rules

pub returns-clause-found : goal.returns-clause-found
returns-clause-found c =
    theorem_found (kinds c.args.tokens.now) (kinds c.in_ok-rest.rest.now) (kinds c.in_ok-theorem.rest.now) (kinds c.in_ok-rest-2.rest.now) (plain_theorem c.in_ok-theorem.theorem)
    c.in_ok-rest.ensures c.in_ok-theorem.ensures.found c.in_ok-rest-2.ensures

pub returns-clause-only : goal.returns-clause-only
returns-clause-only c =
    only_theorem (seen plain_theorem) (kinds c.args.tokens.now) (kinds c.in_ok-rest.rest.now) c.in_ok-rest.ensures (plain_theorem c.in_ok-theorem.theorem) (kinds c.in_ok-theorem.rest.now)
    c.in_ok-theorem.ensures.only (kinds c.in_ok-rest-2.rest.now) c.in_ok-rest-2.ensures
