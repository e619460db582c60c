use Rattle.std.proofs.Common.{◌≡◌, ◌∙◌, ℕ, List, ap, subst}
use Rattle.std.specs.Prelude.{Err, Some}
use Rattle.std.specs.Borrow.{Bor}
use Rattle.std.proofs.lemmas.Result.{err_from_is_err_and}
use Rattle.kv_lex.specs.declared.token.Token.{Token}
use Rattle.kv_pexpr.specs.Gives.{kinds, Gives}
use Rattle.kv_punit.specs.Errors.{of_lexer, of_reader}
use Rattle.kv_punit.specs.Parse as spec
use Rattle.kv_punit.specs.declared.errors.TextError.TheVariants as error
use Rattle.kv_punit.proofs.First.{project_answers}
use Rattle.kv_punit.proofs.Told.{TellsProject}
use Rattle.kv_punit.proofs.Texts.{lexer_error, version_error, other_version, behind_version, handed_on, read_of, refused}
use Rattle.kv_punit.proofs.projects.project.Goals as goal

pub returns-in_err-list : goal.returns-in_err-list
returns-in_err-list c =
    let p = err_from_is_err_and c.from_residual.result c.from_residual.ensures.1 in
    let h : TellsProject c.args.text.now c.from_residual.result = handed_on c.args.text.now c.from_residual.result (of_lexer c.in_err-list.field-0.0) p.0
    (lexer_error c.args.text.now c.in_err-list.field-0.0 c.in_err-list.ensures.read) p.1 p.2 in
    record { reads = read_of c.args.text.now c.from_residual.result h; refuses = refused c.args.text.now c.from_residual.result h; faults = project_answers c.args.text.now c.from_residual.result h }

pub returns-in_err-version : goal.returns-in_err-version
returns-in_err-version c =
    let p = err_from_is_err_and c.from_residual-in_err-version.result c.from_residual-in_err-version.ensures.1 in
    let gives = subst (λ x. Gives (λ (found : ℕ × Bor (List Token)). (found.0, kinds found.1.now)) (Err c.in_err-version.field-0.0) (spec.version (kinds x))) c.items.ensures c.in_err-version.ensures in
    let h : TellsProject c.args.text.now c.from_residual-in_err-version.result = handed_on c.args.text.now c.from_residual-in_err-version.result (of_reader c.in_err-version.field-0.0) p.0
    (version_error (λ (found : ℕ × Bor (List Token)). (found.0, kinds found.1.now)) c.args.text.now c.in_ok-list.list c.in_err-version.field-0.0 c.in_ok-list.ensures.read gives) p.1 p.2 in
    record { reads = read_of c.args.text.now c.from_residual-in_err-version.result h; refuses = refused c.args.text.now c.from_residual-in_err-version.result h; faults = project_answers c.args.text.now c.from_residual-in_err-version.result h }

pub returns-then-version-ne-VERSION : goal.returns-then-version-ne-VERSION
returns-then-version-ne-VERSION c =
    let gives = subst (λ x. spec.version (kinds x) ≡ Some (c.in_ok-version.version, kinds c.in_ok-version.rest.now)) c.items.ensures c.in_ok-version.ensures in
    let h : TellsProject c.args.text.now (Err error.Version) = other_version c.args.text.now c.in_ok-list.list c.in_ok-version.version (kinds c.in_ok-version.rest.now) c.in_ok-list.ensures.read gives c.if-version-ne-VERSION.true in
    record { reads = tt; refuses = refused c.args.text.now (Err error.Version) h; faults = project_answers c.args.text.now (Err error.Version) h }

pub returns : goal.returns
returns c =
    let gives = subst (λ x. spec.version (kinds x) ≡ Some (1, kinds c.in_ok-version.rest.now)) c.items.ensures (c.in_ok-version.ensures ∙ ap (λ n. Some (n, kinds c.in_ok-version.rest.now)) c.if-version-ne-VERSION.false) in
    let h : TellsProject c.args.text.now c.body.result = behind_version c.args.text.now c.in_ok-list.list (kinds c.in_ok-version.rest.now) c.body.result c.in_ok-list.ensures.read gives c.body.ensures in
    record { reads = read_of c.args.text.now c.body.result h; refuses = refused c.args.text.now c.body.result h; faults = project_answers c.args.text.now c.body.result h }
