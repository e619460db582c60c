use Rattle.std.proofs.Common.{sym, ap, ◌∙◌}
use Rattle.std.specs.Bool.{one_answer}
use Rattle.kv_trees.specs.Bridge.{plain_form}
use Rattle.kv_trees.specs.Same.{form_eq}
use Rattle.kv_trees.proofs.Inverse.{same_plain}
use Rattle.kv_trees.proofs.Same.{form_is, form_same}
use Rattle.kv_prop.proofs.places.are_same.Goals as goal

pub returns : goal.returns
returns c =
    let one = c.args.one.now in
    let two = c.args.two.now in
    one_answer c.same.result (form_eq (plain_form one) (plain_form two)) c.same.ensures (
      (λ e. same_plain one two (form_is (plain_form one) (plain_form two) e)),
      (λ e. ap (λ f. form_eq (plain_form one) (plain_form f)) (sym e) ∙ form_same (plain_form one)),
    )
