use Rattle.std.proofs.Common.{◌≡◌, ◌∙◌, List, ap, sym, rules}
use Rattle.std.specs.Prelude.{Some, Err}
use Rattle.kv_lex.specs.declared.token.Token.{Token}
use Rattle.kv_raw.specs.RawBridge.{raw_term}
use Rattle.kv_raw.specs.declared.raws.RawTerm.{RawTerm}
use Rattle.kv_pexpr.specs.Gives.{kinds, Gives}
use Rattle.kv_pexpr.proofs.Finds.{tail_range}
use Rattle.kv_punit.specs.Gives.{seen}
use Rattle.kv_punit.specs.Parse.{longest_term}
use Rattle.kv_punit.proofs.Longest.{term_longest, given, not_given}
use Rattle.kv_punit.proofs.trees.term.Goals as goal

pub returns-in_err-term : goal.returns-in_err-term
returns-in_err-term c =
    let h : Gives (seen raw_term) (Err c.in_err-term.field-0.0) (longest_term (kinds c.args.tokens.now)) =
    not_given term_longest RawTerm (seen raw_term) c.args.tokens.now c.in_err-term.field-0.0 c.in_err-term.ensures.longest in
    search rules

pub returns : goal.returns
returns c =
    given term_longest c.args.tokens.now c.in_ok-term.place (raw_term c.in_ok-term.term) c.in_ok-term.ensures.found c.in_ok-term.ensures.longest
    ∙ ap (λ (ts : List Token). Some (raw_term c.in_ok-term.term, kinds ts)) (sym (tail_range c.args.tokens.now c.in_ok-term.place))
