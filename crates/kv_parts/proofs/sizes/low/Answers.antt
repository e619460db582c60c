use Rattle.std.proofs.Common.{arith}
use Rattle.kv_trees.specs.Bridge.{plain_form}
use Rattle.kv_trees.proofs.Depths.{form_within}
use Rattle.kv_parts.proofs.sizes.low.Goals as goal

pub returns-then-depth-le1000 : goal.returns-then-depth-le1000
returns-then-depth-le1000 c = omega (arith, form_within (plain_form c.args.form.now))
