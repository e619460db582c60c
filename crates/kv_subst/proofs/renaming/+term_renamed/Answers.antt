use Rattle.std.proofs.Common.{arith}
use Rattle.kv_subst.specs.Opening.{renamed}
use Rattle.kv_subst.proofs.Each.{changed_each}
use Rattle.kv_subst.proofs.renaming.+term_renamed.Goals as goal

pub terms_renamed-returns : goal.terms_renamed-returns
terms_renamed-returns t c =
    changed_each (renamed c.args.from.now c.args.to.now 0) c.args.terms.now c.loop-term.renamed c.loop-term.term-index (omega arith) c.loop-term.invariant
