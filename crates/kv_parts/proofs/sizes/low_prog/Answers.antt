use Rattle.std.proofs.Common.{arith}
use Rattle.kv_trees.specs.Bridge.{plain_prog}
use Rattle.kv_trees.proofs.Depths.{prog_within}
use Rattle.kv_parts.proofs.sizes.low_prog.Goals as goal

pub returns-then-depth-le1000 : goal.returns-then-depth-le1000
returns-then-depth-le1000 c = omega (arith, prog_within (plain_prog c.args.prog.now))
