use Rattle.std.proofs.Common.{arith}
use Rattle.kv_subst.proofs.Each.{raised_each}
use Rattle.kv_subst.proofs.places.+term_raised.Goals as goal

pub terms_raised-returns : goal.terms_raised-returns
terms_raised-returns t c = raised_each c.args.by c.args.terms.now c.loop-term.raised c.loop-term.term-index (omega arith) c.loop-term.invariant.1
