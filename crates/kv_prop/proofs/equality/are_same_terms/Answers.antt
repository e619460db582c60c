use Rattle.std.proofs.Common.{sym, ap, ◌∙◌}
use Rattle.std.specs.Bool.{one_answer}
use Rattle.kv_trees.specs.Bridge.{plain_term}
use Rattle.kv_trees.specs.Same.{term_eq}
use Rattle.kv_trees.proofs.Inverse.{coded_term, term_back}
use Rattle.kv_trees.proofs.Same.{term_is, term_same}
use Rattle.kv_prop.proofs.equality.are_same_terms.Goals as goal

pub returns : goal.returns
returns c =
    let one = c.args.one.now in
    let two = c.args.two.now in
    one_answer c.same.result (term_eq (plain_term one) (plain_term two)) c.same.ensures (
      (λ e. sym (term_back one) ∙ ap coded_term (term_is (plain_term one) (plain_term two) e) ∙ term_back two),
      (λ e. ap (λ t. term_eq (plain_term one) (plain_term t)) (sym e) ∙ term_same (plain_term one)),
    )
