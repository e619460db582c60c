use Rattle.std.proofs.Common.{arith}
use Rattle.kv_subst.specs.Work.{change_of}
use Rattle.kv_subst.proofs.Each.{changed_each}
use Rattle.kv_subst.proofs.terms.+term_changed.Goals as goal

pub terms_changed-returns : goal.terms_changed-returns
terms_changed-returns t c =
    changed_each (change_of c.args.work.now c.args.depth) c.args.terms.now c.loop-term.changed c.loop-term.term-index (omega arith) c.loop-term.invariant.1
