use Rattle.std.proofs.Common.{max, arith}
use Rattle.kv_trees.specs.Bridge.{plain_form}
use Rattle.kv_subst.specs.Sizes.{ref_reach}
use Rattle.kv_subst.proofs.Sizes.{form_reached}
use Rattle.kv_subst.proofs.opening.close_var.Goals as goal

pub form_changed-requires : goal.form_changed-requires
form_changed-requires c = omega (arith, form_reached (λ k r. max k (ref_reach r)) (λ k r. omega arith) 0 (plain_form c.args.form.now))
