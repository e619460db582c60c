use Rattle.std.proofs.Common.{◌≡◌, ℕ, ap, ◌∙◌}
use Rattle.kv_trees.specs.Bridge.{plain_form, plain_prog}
use Rattle.kv_trees.specs.declared.trees.Form.{Form}
use Rattle.kv_trees.specs.declared.trees.Prog.{Prog}
use Rattle.kv_subst.specs.Changing.{changed_form, changed_prog}
use Rattle.kv_subst.specs.Opening.{renamed}
use Rattle.kv_subst.proofs.Told.{told}
use Rattle.kv_subst.proofs.renaming.+form_renamed.Goals as goal

pub shared_form-returns : goal.shared_form-returns
shared_form-returns t c =
    let before = c.args.form.now in
    let after = λ (k : ℕ) (f : Form). changed_form (renamed c.args.from.now c.args.to.now) k (plain_form f) in
    told (λ (f : Form). (k : ℕ) → plain_form f ≡ after k before) c.new.result c.in_ok-form_renamed.field-0 c.new.ensures
    (λ k. c.in_ok-form_renamed.ensures k ∙ ap (after k) c.get.ensures)

pub shared_prog-returns : goal.shared_prog-returns
shared_prog-returns t c =
    let before = c.args.prog.now in
    let after = λ (k : ℕ) (a : Prog). changed_prog (renamed c.args.from.now c.args.to.now) k (plain_prog a) in
    told (λ (a : Prog). (k : ℕ) → plain_prog a ≡ after k before) c.new.result c.in_ok-prog_renamed.field-0 c.new.ensures
    (λ k. c.in_ok-prog_renamed.ensures k ∙ ap (after k) c.get.ensures)
