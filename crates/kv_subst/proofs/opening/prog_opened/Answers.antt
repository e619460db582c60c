use Rattle.std.proofs.Common.{◌+◌, arith}
use Rattle.kv_trees.specs.Bridge.{plain_term, plain_prog}
use Rattle.kv_subst.specs.Sizes.{term_reach}
use Rattle.kv_subst.proofs.Sizes.{prog_above}
use Rattle.kv_subst.proofs.opening.prog_opened.Goals as goal

pub prog_changed-requires : goal.prog_changed-requires
prog_changed-requires c =
    let n = term_reach (plain_term c.args.at.now) in
    omega (arith, prog_above (λ k r. k + n) n (λ k r. omega arith) 0 (plain_prog c.args.body.now))
