use Rattle.std.proofs.Common.{◌+◌, arith}
use Rattle.kv_trees.specs.Bridge.{plain_term, plain_form}
use Rattle.kv_subst.specs.Sizes.{term_reach}
use Rattle.kv_subst.proofs.Sizes.{form_above}
use Rattle.kv_subst.proofs.opening.form_opened.Goals as goal

pub form_changed-requires : goal.form_changed-requires
form_changed-requires c =
    let n = term_reach (plain_term c.args.at.now) in
    omega (arith, form_above (λ k r. k + n) n (λ k r. omega arith) 0 (plain_form c.args.body.now))
