use Rattle.std.proofs.Common.{arith}
use Rattle.kv_trees.specs.Bridge.{plain_term}
use Rattle.kv_subst.specs.Opening.{raised_term}
use Rattle.kv_prop.proofs.Each.{replaced_each}
use Rattle.kv_prop.proofs.replacing.+term_replaced.Goals as goal

pub terms_replaced-returns : goal.terms_replaced-returns
terms_replaced-returns t c =
    let from = raised_term c.args.depth (plain_term c.args.from.now) in
    let to = raised_term c.args.depth (plain_term c.args.to.now) in
    replaced_each from to c.args.terms.now c.loop-term.replaced c.loop-term.term-index (omega arith) c.loop-term.invariant
