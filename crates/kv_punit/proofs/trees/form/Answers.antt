use Rattle.std.proofs.Common.{◌≡◌, ◌∙◌, List, ap, sym, rules}
use Rattle.std.specs.Prelude.{Some, Err}
use Rattle.kv_lex.specs.declared.token.Token.{Token}
use Rattle.kv_raw.specs.RawBridge.{raw_form}
use Rattle.kv_raw.specs.declared.raws.RawForm.{RawForm}
use Rattle.kv_pexpr.specs.Gives.{kinds, Gives}
use Rattle.kv_pexpr.proofs.Finds.{tail_range}
use Rattle.kv_punit.specs.Gives.{seen}
use Rattle.kv_punit.specs.Parse.{longest_form}
use Rattle.kv_punit.proofs.Longest.{form_longest, given, not_given}
use Rattle.kv_punit.proofs.trees.form.Goals as goal

pub returns-in_err-form-clause-reads : goal.returns-in_err-form-clause-reads
returns-in_err-form-clause-reads c =
    let h : Gives (seen raw_form) (Err c.in_err-form.field-0.0) (longest_form (kinds c.args.tokens.now)) =
    not_given form_longest RawForm (seen raw_form) c.args.tokens.now c.in_err-form.field-0.0 c.in_err-form.ensures.longest in
    search rules

pub returns-clause-reads : goal.returns-clause-reads
returns-clause-reads c =
    given form_longest c.args.tokens.now c.in_ok-form.place (raw_form c.in_ok-form.form) c.in_ok-form.ensures.found c.in_ok-form.ensures.longest
    ∙ ap (λ (ts : List Token). Some (raw_form c.in_ok-form.form, kinds ts)) (sym (tail_range c.args.tokens.now c.in_ok-form.place))
